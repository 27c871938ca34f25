-- Lists of truth values with others in place of some.
use Rattle.std.specs.Prelude.{ℕ, ◌+◌, Bool, List, length}
use Rattle.bitvec_slice.specs.Ranges.{with_range}

-- a list with others in place of its elements from element `from` on, one for one
abbrev pub with_list : List Bool → ℕ → List Bool → List Bool
with_list xs from ys = with_range xs from (from + length ys) ys
