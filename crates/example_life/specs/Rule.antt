-- Conway's rule, on lists of truth values that go round at their ends.
use Rattle.std.specs.Prelude.{◌≡◌, ℕ, ◌+◌, ◌-◌, ◌%◌, ◌<◌, ◌==◌, Bool, ◌&&◌, ◌||◌, cond, List, [], length}
use Rattle.std.specs.List.{slice_index_or}
use Rattle.bitvec.specs.Span.{element}

-- the number of a truth value
abbrev pub one_if : Bool → ℕ
one_if bit = cond bit 1 0

-- the place before one of `many`, and the place behind it, where the last is before the first
abbrev pub place_before : ℕ → ℕ → ℕ
place_before many j = (j + (many - 1)) % many

abbrev pub place_behind : ℕ → ℕ → ℕ
place_behind many j = (j + 1) % many

-- how many cells of a row live beside a place, and how many with the place itself
abbrev pub beside : List Bool → ℕ → ℕ
beside row j = one_if (element row (place_before (length row) j)) + one_if (element row (place_behind (length row) j))

abbrev pub around : List Bool → ℕ → ℕ
around row j = beside row j + one_if (element row j)

-- whether a cell lives next that has n neighbours
abbrev pub lives : Bool → ℕ → Bool
lives alive n = (n == 3) || (alive && (n == 2))

-- a row's cell in the next generation, by the rows above, of and below it
abbrev pub next_cell : List Bool → List Bool → List Bool → ℕ → Bool
next_cell above row below j = lives (element row j) (around above j + beside row j + around below j)

-- a grid's row
abbrev pub row_of : List (List Bool) → ℕ → List Bool
row_of grid i = slice_index_or grid i []

-- cell j of a grid's row i in the next generation, where the last row is above the first
abbrev pub cell_after : List (List Bool) → ℕ → ℕ → Bool
cell_after grid i j =
    next_cell (row_of grid (place_before (length grid) i)) (row_of grid i) (row_of grid (place_behind (length grid) i)) j

-- a grid's next generation: the rule at each cell
abbrev pub IsNext : List (List Bool) → List (List Bool) → Type 0
IsNext old new =
    (length new ≡ length old) × ((i j : ℕ) → i < length old → j < length (row_of old i) → element (row_of new i) j ≡ cell_after old i j)
