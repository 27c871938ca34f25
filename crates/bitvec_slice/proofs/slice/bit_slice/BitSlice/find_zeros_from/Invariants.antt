use Rattle.std.proofs.Common.{ℕ, ◌+◌, ◌-◌, ◌<◌, ◌≤◌, length}
use Rattle.bitvec_slice.specs.BitSlice.{slice_bits}
use Rattle.bitvec_slice.specs.Patterns.{AreFreeFrom}
use Rattle.bitvec_slice.proofs.slice.bit_slice.BitSlice.find_zeros_from.Given as goal

-- no multiple before `from` is one from which on `count` bits are zero
abbrev pub invariant-loop-from : goal.invariant-loop-from
invariant-loop-from g l = (l.start ≤ l.from) × ((k : ℕ) → k < l.from → ¬ AreFreeFrom (slice_bits l.self) l.start l.count l.multiple_of k)

abbrev pub decreases-loop-from : goal.decreases-loop-from
decreases-loop-from g l = length (slice_bits l.self) + 1 - l.from
