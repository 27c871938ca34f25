use Rattle.std.proofs.Common.{◌+◌, ◌-◌, ◌*◌}
use Rattle.bitvec_ptr.specs.Combinations.{HasCombined}
use Rattle.bitvec_ptr.proofs.ptr.copy.words.combine_row_falling.Given as goal

abbrev pub invariant-loop-done : goal.invariant-loop-done
invariant-loop-done g l =
    let R = g.R.BitRegister in
    let R2 = g.R2.BitRegister in
    let left = l.count - l.done in
    HasCombined g.C.Combine.of R.BITS g.O.BitAt.at_of R.number l.source (l.fn.from.word * R.BITS + l.fn.from.bit + left * R2.BITS) R2.BITS
    g.O2.BitAt.at_of R2.number l.fn.writer l.writer (l.to * R2.BITS + left * R2.BITS) (l.done * R2.BITS) (l.to + left) l.done
