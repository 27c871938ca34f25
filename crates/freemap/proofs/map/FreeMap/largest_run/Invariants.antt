use Rattle.std.proofs.Common.{◌-◌, length}
use Rattle.freemap.specs.Map.{in_use}
use Rattle.freemap.proofs.RunLemmas.{IsMost}
use Rattle.freemap.proofs.map.FreeMap.largest_run.Given as goal

abbrev pub invariant-loop-at : goal.invariant-loop-at
invariant-loop-at g l = IsMost (in_use l.self) l.from l.most

abbrev pub decreases-loop-at : goal.decreases-loop-at
decreases-loop-at g l = length (in_use l.self) - l.from
