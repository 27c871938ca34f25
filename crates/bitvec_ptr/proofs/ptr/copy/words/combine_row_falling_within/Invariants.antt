use Rattle.std.proofs.Common.{◌+◌, ◌-◌, ◌*◌}
use Rattle.bitvec_ptr.specs.Combinations.{HasCombined}
use Rattle.bitvec_ptr.proofs.ptr.copy.words.combine_row_falling_within.Given as goal

abbrev pub invariant-loop-block : goal.invariant-loop-block
invariant-loop-block g l =
    let R = g.R.BitRegister in
    let at = g.O.BitAt.at_of in
    let done = l.block * 4 in
    let left = l.count - done in
    HasCombined g.C.Combine.of R.BITS at R.number l.fn.writer.words.now (l.fn.from.word * R.BITS + l.fn.from.bit + left * R.BITS) R.BITS at R.number
    l.fn.writer l.writer (l.to * R.BITS + left * R.BITS) (done * R.BITS) (l.to + left) done
