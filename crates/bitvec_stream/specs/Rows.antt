-- Numbers one behind the other, each in a number of bits of its own, the highest digit first.
use Rattle.std.specs.Prelude.{◌≡◌, ℕ, ◌^◌, ◌<◌, ◌≤◌, sum, Bool, List, [], ◌∷◌, ◌++◌, length, map, take, drop}
use Rattle.std.specs.List.{All, flat_map}
use Rattle.bitvec_stream.specs.Numbers.{number_be, digits_be}

-- The bits of a row of numbers, of each of which it is said in how many bits it stands: one number behind the other, each
-- with its highest digit first.
abbrev pub row_be : List (ℕ × ℕ) → List Bool
row_be row = flat_map (λ it. digits_be it.0 it.1) row

-- each number of a row has at most as many digits as it has bits
abbrev pub RowFits : List (ℕ × ℕ) → Type 0
RowFits row = All (λ it. it.1 < 2 ^ it.0) row

-- in how many bits each number of a row stands
abbrev pub row_counts : List (ℕ × ℕ) → List ℕ
row_counts row = map (λ it. it.0) row

-- the row of numbers that a list begins with, where it is said in how many bits each stands
abbrev pub row_in : List ℕ → List Bool → List (ℕ × ℕ)
row_in [] xs = []
row_in (count ∷ counts) xs = (count, number_be (take count xs)) ∷ row_in counts (drop count xs)

-- What was written is read: from a list that begins with a row's bits, a row of the same numbers of bits is this row, and
-- what stands behind it is left.
abbrev pub RowIsRead : Type 0
RowIsRead =
    (row : List (ℕ × ℕ)) (after : List Bool) → RowFits row
    → (row_in (row_counts row) (row_be row ++ after) ≡ row) × (drop (length (row_be row)) (row_be row ++ after) ≡ after)

-- What was read is written: the row that a list begins with has the list's first bits, and its numbers fit.
abbrev pub RowIsWritten : Type 0
RowIsWritten =
    (counts : List ℕ) (xs : List Bool) → sum counts ≤ length xs
    → (row_be (row_in counts xs) ++ drop (sum counts) xs ≡ xs) × RowFits (row_in counts xs)
