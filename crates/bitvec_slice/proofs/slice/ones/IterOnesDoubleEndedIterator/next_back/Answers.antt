use Rattle.std.proofs.Common.{not, MatchOption, ap, subst}
use Rattle.bitvec_slice.specs.BitSlice.{slice_bits}
use Rattle.bitvec_slice.specs.Bits.{AllBetween, IsLastBetween}
use Rattle.bitvec_slice.specs.Ones.{ones_left}
use Rattle.bitvec_slice.proofs.OnesLemmas.{ones_before, progress_before}
use Rattle.bitvec_slice.proofs.slice.ones.IterOnesDoubleEndedIterator.next_back.Goals as goal

pub returns-clause-steps : goal.returns-clause-steps
returns-clause-steps g c =
    let old = c.args.self.now.ahead in
    let bits = slice_bits old.slice in
    let last = subst (λ b. MatchOption c.step_back.result (AllBetween (not b) bits old.next old.end) (IsLastBetween b bits old.next old.end)) c.args.self.now.of_ones c.step_back.ensures.last in
    ones_before bits _ old.next old.end _ _ c.step_back.result (ap slice_bits c.step_back.ensures.slice) c.step_back.ensures.next last c.step_back.ensures.end

pub returns-clause-goes : goal.returns-clause-goes
returns-clause-goes g c = progress_before _ ones_left _ _ _ tt (returns-clause-steps g c)
