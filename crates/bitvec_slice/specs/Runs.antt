-- What an iterator over a slice's stretches of ones shows.
use Rattle.std.specs.Prelude.{ℕ, List}
use Rattle.bitvec_slice.specs.BitSlice.{slice_bits}
use Rattle.bitvec_slice.specs.Stretches.{runs_from}
use Rattle.bitvec_slice.specs.declared.slice.runs.IterRuns.{IterRuns}

-- the stretches that are still to come
abbrev pub runs_left : {R O : Type 0} {a b c d e f g h i : _} → IterRuns R O a b c d e f g h i → List (ℕ × ℕ)
runs_left it = runs_from (slice_bits it.slice) it.next
