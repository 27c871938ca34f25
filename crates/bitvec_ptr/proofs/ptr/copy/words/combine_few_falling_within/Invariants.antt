use Rattle.std.proofs.Common.{◌+◌, ◌-◌, ◌*◌}
use Rattle.bitvec_ptr.specs.Combinations.{HasCombined}
use Rattle.bitvec_ptr.proofs.ptr.copy.words.combine_few_falling_within.Given as goal

abbrev pub invariant-loop-done : goal.invariant-loop-done
invariant-loop-done g l =
    let R = g.R.BitRegister in
    let at = g.O.BitAt.at_of in
    let left = l.count - l.done in
    HasCombined g.C.Combine.of R.BITS at R.number l.fn.writer.words.now (l.fn.from.word * R.BITS + l.fn.from.bit + left * R.BITS) R.BITS at R.number
    l.fn.writer l.writer (l.to * R.BITS + left * R.BITS) (l.done * R.BITS) (l.to + left) l.done
