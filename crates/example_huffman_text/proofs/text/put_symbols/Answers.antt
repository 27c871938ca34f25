use Rattle.std.proofs.Common.{rules}
use Rattle.example_huffman.specs.Huffman.{lengths_of}
use Rattle.example_huffman_text.proofs.TextWrites.{writes-next}
use Rattle.example_huffman_text.proofs.text.put_symbols.Goals as goal

pub loop-place-preserved : goal.loop-place-preserved
loop-place-preserved g c =
    writes-next c.args.writer.now c.loop-place.writer c.put_symbol.new.writer
    (lengths_of c.args.code.now) c.args.symbols.now c.loop-place.place
    c.loop-place-test.true c.loop-place.invariant (search rules)
