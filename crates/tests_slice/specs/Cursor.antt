-- A cursor over a slice.
use Rattle.std.specs.Prelude.{Bool, List, drop}
use Rattle.bitvec_slice.specs.BitSlice.{slice_bits}
use Rattle.tests_slice.specs.declared.cursor.Cursor.{Cursor}

-- the bits that are still to come
abbrev pub cursor_left : {R O : Type 0} {a b c d e f g h i : _} → Cursor R O a b c d e f g h i → List Bool
cursor_left cursor = drop cursor.position (slice_bits cursor.slice)
