use Rattle.std.proofs.Common.{ℕ, ◌*◌, ◌<◌}
use Rattle.bitvec_slice.specs.Bits.{AreFree}
use Rattle.freemap.specs.Map.{in_use}
use Rattle.freemap.proofs.map.FreeMap.lowest_free.Given as goal

abbrev pub invariant-loop-w : goal.invariant-loop-w
invariant-loop-w g l = (b : ℕ) → b < l.w * 64 → ¬ AreFree (in_use l.self) b 1
