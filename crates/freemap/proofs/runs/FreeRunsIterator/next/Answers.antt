use Rattle.bitvec_slice.specs.BitSlice.{slice_bits}
use Rattle.bitvec_slice.proofs.OnesLemmas.{progress_first}
use Rattle.freemap.specs.RunsLeft.{free_runs_left}
use Rattle.freemap.proofs.FreeRunLemmas.{runs_end, runs_next}
use Rattle.freemap.proofs.runs.FreeRunsIterator.next.Goals as goal

pub returns-in_err-at-clause-steps : goal.returns-in_err-at-clause-steps
returns-in_err-at-clause-steps g c =
    let it = c.args.self.now in
    let none = runs_end (slice_bits it.bits) it.next c.in_err-at.ensures in
    rw c.from_residual.ensures (none, none)

pub returns-clause-steps : goal.returns-clause-steps
returns-clause-steps g c = (let it = c.args.self.now in runs_next (slice_bits it.bits) it.next c.in_ok-at.at c.in_ok-at.count it.edge c.in_ok-at.ensures)

pub returns-clause-goes : goal.returns-clause-goes
returns-clause-goes g c = progress_first _ free_runs_left _ _ _ tt (returns-clause-steps g c)
