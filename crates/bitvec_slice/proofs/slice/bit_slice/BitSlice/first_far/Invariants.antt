use Rattle.std.proofs.Common.{◌-◌, ◌≤◌, not}
use Rattle.bitvec_slice.specs.BitSlice.{slice_bits}
use Rattle.bitvec_slice.specs.Bits.{AllBetween}
use Rattle.bitvec_slice.proofs.slice.bit_slice.BitSlice.first_far.Given as goal

-- none before index `next` is `bit`
abbrev pub invariant-loop-next : goal.invariant-loop-next
invariant-loop-next g l = (l.from ≤ l.next) × AllBetween (not l.bit) (slice_bits l.self) l.from l.next

abbrev pub decreases-loop-next : goal.decreases-loop-next
decreases-loop-next g l = l.upto - l.next
