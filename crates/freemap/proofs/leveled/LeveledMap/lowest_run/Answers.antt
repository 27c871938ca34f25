use Rattle.freemap.specs.Map.{in_use}
use Rattle.freemap.proofs.StretchRuns.{no_blocks}
use Rattle.freemap.proofs.leveled.LeveledMap.lowest_run.Goals as goal

pub returns-then-count-eq0 : goal.returns-then-count-eq0
returns-then-count-eq0 g c = no_blocks (in_use c.args.self.now.blocks) c.args.count c.args.alignment c.if-count-eq0.true c.requires
