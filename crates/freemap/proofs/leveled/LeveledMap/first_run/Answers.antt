use Rattle.freemap.specs.Map.{in_use}
use Rattle.freemap.proofs.StretchRuns.{run_of_any}
use Rattle.freemap.proofs.leveled.LeveledMap.first_run.Goals as goal

pub returns : goal.returns
returns g c = run_of_any (in_use c.args.self.now.blocks) c.args.count c.lowest_run.result c.lowest_run.ensures
