use Rattle.std.proofs.Common.{◌*◌}
use Rattle.bitvec_slice.specs.BitSlice.{slice_span, slice_bits}
use Rattle.bitvec_slice.specs.FreeRuns.{is_free}
use Rattle.bitvec_slice.proofs.FreeRunLemmas.{IsPassed}
use Rattle.bitvec_slice.proofs.slice.bit_slice.BitSlice.find_zeros_by_words.Given as goal

-- no run begins before word k but among the zeros that end there
abbrev pub invariant-loop-k : goal.invariant-loop-k
invariant-loop-k g l = IsPassed (is_free (slice_span l.self).head (slice_bits l.self)) l.count (l.k * g.R.BitRegister.BITS) l.before
