use Rattle.std.proofs.Common.{◌+◌, ◌*◌}
use Rattle.bitvec_ptr.specs.Combinations.{HasCombined}
use Rattle.bitvec_ptr.proofs.ptr.copy.words.combine_row_rising_within.Given as goal

abbrev pub invariant-loop-block : goal.invariant-loop-block
invariant-loop-block g l =
    let R = g.R.BitRegister in
    let at = g.O.BitAt.at_of in
    let done = l.block * 4 in
    HasCombined g.C.Combine.of R.BITS at R.number l.fn.writer.words.now (l.fn.from.word * R.BITS + l.fn.from.bit) R.BITS at R.number l.fn.writer
    l.writer (l.to * R.BITS) (done * R.BITS) l.to done
