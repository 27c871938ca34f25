use Rattle.std.proofs.Common.{◌-◌, length}
use Rattle.freemap.specs.Map.{in_use}
use Rattle.freemap.proofs.StretchRuns.{NoneBefore}
use Rattle.freemap.proofs.leveled.LeveledMap.run_by_levels.Given as goal

-- no run begins before the free block from which one is searched
abbrev pub invariant-loop-end : goal.invariant-loop-end
invariant-loop-end g l = NoneBefore (in_use l.self.blocks) l.count l.alignment l.first

abbrev pub decreases-loop-end : goal.decreases-loop-end
decreases-loop-end g l = length (in_use l.self.blocks) - l.first
