use Rattle.std.proofs.Common.{arith}
use Rattle.bitvec_stream.specs.Reader.{unread}
use Rattle.example_huffman.specs.Huffman.{lengths_of}
use Rattle.example_huffman_text.proofs.SymbolLemmas.{some_begins}
use Rattle.example_huffman_text.proofs.symbol.symbol_before.Goals as goal

pub unreachable-requires : goal.unreachable-requires
unreachable-requires g c =
    let code = c.args.code.now in
    let bits = unread c.args.reader.now in
    let some = some_begins (lengths_of code) code.complete bits (omega arith) in
    omega (arith, c.loop-shorter.invariant.1 some.0 some.1, some.2)
