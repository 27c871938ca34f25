-- What a `Cursor` shows.
use Rattle.std.specs.Prelude.{ℕ, ◌+◌, ◌*◌}
use Rattle.bitvec_ptr.specs.declared.ptr.cursor.Cursor.{Cursor}

-- the place, counted from the first of a memory on
abbrev pub cursor_place : {R : Type 0} {a b c d e f g : _} → Cursor R a b c d e f g → ℕ
cursor_place {a = own} cursor = cursor.word * own.BITS + cursor.bit
