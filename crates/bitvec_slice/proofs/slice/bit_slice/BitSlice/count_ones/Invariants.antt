use Rattle.std.proofs.Common.{◌≡◌, ◌+◌, ◌*◌}
use Rattle.bitvec.specs.Digit.{count_below}
use Rattle.bitvec_slice.specs.BitSlice.{slice_span, slice_bits}
use Rattle.bitvec_slice.proofs.ListCountLemmas.{place_test}
use Rattle.bitvec_slice.proofs.slice.bit_slice.BitSlice.count_ones.Given as goal

-- the ones in the first word and in the i words behind it are counted
abbrev pub invariant-loop-i : goal.invariant-loop-i
invariant-loop-i g l = l.total ≡ count_below (place_test (slice_span l.self).head (slice_bits l.self)) ((l.i + 1) * g.R.BitRegister.BITS)
