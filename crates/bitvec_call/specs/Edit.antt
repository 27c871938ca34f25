-- Edits of all the bits of a range.
use Rattle.std.specs.Prelude.{ℕ, ◌-◌, ◌++◌, Bool, false, not, List, map, length, take, drop, reverse, replicate}
use Rattle.bitvec_call.specs.declared.edit.Edit.{Edit}
use Rattle.bitvec_call.specs.declared.edit.Edit.TheVariants.{Invert, Reverse, ShiftLeft, ShiftRight, RotateLeft}

-- the list that an edit makes of a list
abbrev pub edited : Edit → List Bool → List Bool
edited Invert xs = map not xs
edited Reverse xs = reverse xs
edited (ShiftLeft by) xs = drop by xs ++ replicate by false
edited (ShiftRight by) xs = replicate by false ++ take (length xs - by) xs
edited (RotateLeft by) xs = drop by xs ++ take by xs

-- by how many places an edit moves each bit
abbrev pub moved_by : Edit → ℕ
moved_by Invert = 0
moved_by Reverse = 0
moved_by (ShiftLeft by) = by
moved_by (ShiftRight by) = by
moved_by (RotateLeft by) = by
