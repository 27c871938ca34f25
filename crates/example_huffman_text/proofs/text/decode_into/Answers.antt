use Rattle.std.proofs.Common.{◌∙◌, arith}
use Rattle.example_huffman_text.proofs.TextLemmas.{read_next}
use Rattle.example_huffman_text.proofs.text.decode_into.Goals as goal

pub loop-place-preserved : goal.loop-place-preserved
loop-place-preserved g c =
    let are = c.loop-place.invariant in
    let read = c.in-Ok.ensures in
    let next = read_next are.0 c.in-Ok.symbol _ _ (omega arith) read.symbol.code read.bits in
    (next read.moved.1, read.moved.2 ∙ are.1)
