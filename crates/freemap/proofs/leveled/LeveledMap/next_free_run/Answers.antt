use Rattle.freemap.specs.Map.{in_use}
use Rattle.freemap.proofs.RunLemmas.{run_is}
use Rattle.freemap.proofs.StretchRuns.{first_from, none_from}
use Rattle.freemap.proofs.leveled.LeveledMap.next_free_run.Goals as goal

pub returns-in_err-at : goal.returns-in_err-at
returns-in_err-at g c = rw c.from_residual.ensures (none_from (in_use c.args.self.now.blocks) c.args.from c.in_err-at.ensures)

pub end_of_run-requires : goal.end_of_run-requires
end_of_run-requires g c = c.in_ok-at.ensures.0.1

pub returns : goal.returns
returns g c =
    let used = in_use c.args.self.now.blocks in
    run_is used c.args.from c.in_ok-at.at c.end_of_run.result (first_from used c.args.from c.in_ok-at.at c.in_ok-at.ensures) c.end_of_run.ensures
