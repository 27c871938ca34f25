use Rattle.std.proofs.Common.{◌≤◌, not}
use Rattle.bitvec_slice.specs.BitSlice.{slice_bits}
use Rattle.bitvec_slice.specs.Bits.{AllBetween}
use Rattle.bitvec_slice.proofs.slice.bit_slice.BitSlice.last_between.Given as goal

-- none from index `end` on is `bit`
abbrev pub invariant-loop-end : goal.invariant-loop-end
invariant-loop-end g l = (l.end ≤ l.upto) × AllBetween (not l.bit) (slice_bits l.self) l.end l.upto

abbrev pub decreases-loop-end : goal.decreases-loop-end
decreases-loop-end g l = l.end
