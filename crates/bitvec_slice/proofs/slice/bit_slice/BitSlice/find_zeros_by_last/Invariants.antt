use Rattle.std.proofs.Common.{ℕ, ◌-◌, ◌<◌, ◌≤◌, length}
use Rattle.bitvec_slice.specs.BitSlice.{slice_bits}
use Rattle.bitvec_slice.specs.Bits.{AreFree}
use Rattle.bitvec_slice.proofs.slice.bit_slice.BitSlice.find_zeros_by_last.Given as goal

-- no index before `start` is one from which on `count` bits are zero
abbrev pub invariant-loop-start : goal.invariant-loop-start
invariant-loop-start g l = (l.start ≤ length (slice_bits l.self)) × ((k : ℕ) → k < l.start → ¬ AreFree (slice_bits l.self) k l.count)

abbrev pub decreases-loop-start : goal.decreases-loop-start
decreases-loop-start g l = length (slice_bits l.self) - l.start
