-- What an iterator over a map's runs of free blocks shows.
use Rattle.std.specs.Prelude.{ℕ, List}
use Rattle.bitvec_slice.specs.BitSlice.{slice_bits}
use Rattle.freemap.specs.FreeRuns.{free_runs_from}
use Rattle.freemap.specs.declared.runs.FreeRuns.{FreeRuns}

-- the runs that are still to come
abbrev pub free_runs_left : {O : Type 0} {a b : _} → FreeRuns O a b → List (ℕ × ℕ)
free_runs_left it = free_runs_from (slice_bits it.bits) it.next
