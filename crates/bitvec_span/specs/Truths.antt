-- Lists of truth values: how many elements are true, and which is the first that is.
use Rattle.std.specs.Prelude.{◌≡◌, ℕ, ◌<◌, Bool, not, List, length}
use Rattle.bitvec_mem.specs.Digit.{count_below}
use Rattle.bitvec_span.specs.Span.{element}

-- how many elements of a list are true
abbrev pub ones_in : List Bool → ℕ
ones_in xs = count_below (element xs) (length xs)

-- every element of a list is `bit`
abbrev pub AllAre : Bool → List Bool → Type 0
AllAre bit xs = (j : ℕ) → j < length xs → element xs j ≡ bit

-- element i of a list is the first that is `bit`
abbrev pub IsFirst : Bool → List Bool → ℕ → Type 0
IsFirst bit xs i = (i < length xs) × (element xs i ≡ bit) × ((j : ℕ) → j < i → element xs j ≡ not bit)
