use Rattle.std.proofs.Common.{◌+◌, ◌-◌, ◌*◌, ◌≤◌, not}
use Rattle.bitvec_slice.specs.BitSlice.{slice_span, slice_len, slice_bits}
use Rattle.bitvec_slice.specs.Bits.{AllBetween}
use Rattle.bitvec_slice.specs.Field.{stretch_end}
use Rattle.bitvec_slice.proofs.slice.bit_slice.BitSlice.chosen_later.Given as goal

-- the words behind word `word` and before word k have no bit that is `bit`
abbrev pub invariant-loop-k : goal.invariant-loop-k
invariant-loop-k g l =
    (l.word + 1 ≤ l.k) × (l.k ≤ l.last)
    × AllBetween (not l.bit) (slice_bits l.self) (stretch_end g.R.BitRegister.BITS (slice_span l.self).head (slice_len l.self) l.word) (l.k * g.R.BitRegister.BITS - (slice_span l.self).head)
