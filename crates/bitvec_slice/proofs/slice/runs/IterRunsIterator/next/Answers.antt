use Rattle.std.proofs.Common.{true, false, arith, subst}
use Rattle.bitvec_slice.specs.BitSlice.{slice_bits}
use Rattle.bitvec_slice.specs.Bits.{AllBetween, IsFirstBetween}
use Rattle.bitvec_slice.specs.Runs.{runs_left}
use Rattle.bitvec_slice.proofs.OnesLemmas.{progress_first}
use Rattle.bitvec_slice.proofs.RunLemmas.{runs_none, runs_first}
use Rattle.bitvec_slice.proofs.slice.runs.IterRunsIterator.next.Goals as goal

pub returns-in-Some-clause-steps : goal.returns-in-Some-clause-steps
returns-in-Some-clause-steps g c =
    let it = c.args.self.now in
    let xs = slice_bits it.slice in
    let last = c.end_of_ones-end.ensures in
    let first = subst (λ n. IsFirstBetween true xs it.next n c.in-Some.start) c.len-len.ensures.list c.in-Some.ensures in
    runs_first xs it.next c.in-Some.start c.end_of_ones-end.result it.edge first last.some (omega (arith, last.inside, c.len-len.ensures.value, c.len-len.ensures.list)) last.ones last.end

pub returns-in-Some-clause-goes : goal.returns-in-Some-clause-goes
returns-in-Some-clause-goes g c = progress_first _ runs_left _ _ _ tt (returns-in-Some-clause-steps g c)

pub returns-in-None-clause-steps : goal.returns-in-None-clause-steps
returns-in-None-clause-steps g c =
    let it = c.args.self.now in
    let xs = slice_bits it.slice in
    let none = runs_none xs it.next (subst (λ n. AllBetween false xs it.next n) c.len-len.ensures.list c.in-None.ensures) in
    (none, none)
