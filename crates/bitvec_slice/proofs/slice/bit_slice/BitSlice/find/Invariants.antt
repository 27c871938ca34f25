use Rattle.std.proofs.Common.{ℕ, ◌-◌, ◌<◌, ◌≤◌, length}
use Rattle.bitvec_slice.specs.BitSlice.{slice_bits}
use Rattle.bitvec_slice.specs.Patterns.{HasAt}
use Rattle.bitvec_slice.proofs.slice.bit_slice.BitSlice.find.Given as goal

-- the slice has the pattern nowhere before `from`
abbrev pub invariant-loop-from : goal.invariant-loop-from
invariant-loop-from g l = (l.from ≤ length (slice_bits l.self)) × ((k : ℕ) → k < l.from → ¬ HasAt (slice_bits l.self) (slice_bits l.pattern) k)

abbrev pub decreases-loop-from : goal.decreases-loop-from
decreases-loop-from g l = length (slice_bits l.self) - l.from
