use Rattle.std.proofs.Common.{not, MatchOption, ap, subst}
use Rattle.bitvec_slice.specs.BitSlice.{slice_bits}
use Rattle.bitvec_slice.specs.Bits.{AllBetween, IsFirstBetween}
use Rattle.bitvec_slice.specs.Ones.{zeros_left}
use Rattle.bitvec_slice.proofs.OnesLemmas.{zeros_behind, progress_behind}
use Rattle.bitvec_slice.proofs.slice.ones.IterZerosIterator.next.Goals as goal

pub returns-clause-steps : goal.returns-clause-steps
returns-clause-steps g c =
    let old = c.args.self.now in
    let bits = slice_bits old.ahead.slice in
    let first = subst (λ b. MatchOption c.step.result (AllBetween (not b) bits old.ahead.next old.ahead.end) (IsFirstBetween b bits old.ahead.next old.ahead.end)) old.of_zeros c.step.ensures.first in
    zeros_behind bits _ old.ahead.next old.ahead.end _ _ c.step.result (ap slice_bits c.step.ensures.slice) c.step.ensures.end first c.step.ensures.next

pub returns-clause-goes : goal.returns-clause-goes
returns-clause-goes g c = progress_behind _ zeros_left _ _ _ tt (returns-clause-steps g c)
