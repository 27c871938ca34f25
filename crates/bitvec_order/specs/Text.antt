-- The texts of indices, ends, positions, selectors and masks.
use Rattle.std.specs.Prelude.{ℕ, false, List, ◌++◌, codes}
use Rattle.bitvec_mem.specs.Numeral.{numeral}

-- a number in binary, with zeros before it up to `digits` digits
abbrev pub binary_text : ℕ → ℕ → List ℕ
binary_text digits n = numeral 2 false digits n

-- a number in decimal
abbrev pub decimal_text : ℕ → List ℕ
decimal_text n = numeral 10 false 1 n

-- a type's name, a register's name in angle brackets, and a text in parentheses
abbrev pub debug_text : List ℕ → List ℕ → List ℕ → List ℕ
debug_text type register inner = type ++ (codes "<" ++ (register ++ (codes ">(" ++ (inner ++ codes ")"))))

-- why a number is no index of a register of that name and width
abbrev pub too_large_text : ℕ → List ℕ → ℕ → List ℕ
too_large_text n register width =
    codes "the value " ++ (decimal_text n ++ (codes " is too large to index into " ++ (register ++ (codes " (" ++ (decimal_text width ++ codes " bits wide)")))))
