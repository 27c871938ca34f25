-- The texts of lists of numbers.
use Rattle.std.specs.Prelude.{ℕ, Bool, List, [], ◌∷◌, ◌++◌, codes}
use Rattle.bitvec_mem.specs.Numeral.{numeral}

-- the numbers after the first in a base, each after a comma and a space
abbrev pub rest_text : ℕ → Bool → List ℕ → List ℕ
rest_text base upper [] = []
rest_text base upper (n ∷ ns) = codes ", " ++ (numeral base upper 1 n ++ rest_text base upper ns)

-- the numbers, with a comma and a space between them
abbrev pub joined_text : ℕ → Bool → List ℕ → List ℕ
joined_text base upper [] = []
joined_text base upper (n ∷ ns) = numeral base upper 1 n ++ rest_text base upper ns

-- that in square brackets
abbrev pub list_text : ℕ → Bool → List ℕ → List ℕ
list_text base upper ns = codes "[" ++ (joined_text base upper ns ++ codes "]")
