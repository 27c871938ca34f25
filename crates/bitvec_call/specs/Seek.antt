-- What is looked for among the bits of a range, and `end` where there is no such thing.
use Rattle.std.specs.Prelude.{◌≡◌, ◌⊎◌, ℕ, ◌<◌, Bool, true, not, List, length, min, max}
use Rattle.bitvec.specs.Memory.{zip_with}
use Rattle.bitvec.specs.Truths.{AllAre, IsFirst, ones_in}
use Rattle.bitvec_slice.specs.Bits.{IsLast, AreFree, AllBetween, IsFirstBetween, IsLastBetween}
use Rattle.bitvec_slice.specs.Patterns.{AreFreeFrom, IsLeast}

-- the index of the first element of a list that is `bit`, and `end` where none is
abbrev pub IsFirstOr : Bool → List Bool → ℕ → ℕ → Type 0
IsFirstOr bit xs end i = IsFirst bit xs i ⊎ (AllAre (not bit) xs × (i ≡ end))

-- the index of the last element of a list that is `bit`, and `end` where none is
abbrev pub IsLastOr : Bool → List Bool → ℕ → ℕ → Type 0
IsLastOr bit xs end i = IsLast bit xs i ⊎ (AllAre (not bit) xs × (i ≡ end))

-- the first index from which on `zeros` elements of a list are there and false, and `end` where there is none
abbrev pub IsFreeOr : ℕ → List Bool → ℕ → ℕ → Type 0
IsFreeOr zeros xs end i = (AreFree xs i zeros × ((k : ℕ) → k < i → ¬ AreFree xs k zeros)) ⊎ (((k : ℕ) → ¬ AreFree xs k zeros) × (i ≡ end))

-- the index of the first element of a list, from index `from` on, that is `bit`, and `end` where none is
abbrev pub IsNextOr : Bool → ℕ → List Bool → ℕ → ℕ → Type 0
IsNextOr bit from xs end i = IsFirstBetween bit xs from (length xs) i ⊎ (AllBetween (not bit) xs from (length xs) × (i ≡ end))

-- the index of the last element of a list, of those before index `before`, that is `bit`, and `end` where none is
abbrev pub IsPreviousOr : Bool → ℕ → List Bool → ℕ → ℕ → Type 0
IsPreviousOr bit before xs end i = IsLastBetween bit xs 0 (min before (length xs)) i ⊎ (AllBetween (not bit) xs 0 (min before (length xs)) × (i ≡ end))

-- The first index not before `from`, and a multiple of a number, from which on `zeros` elements of a list are there and
-- false, and `end` where there is none. For the number 0 as for 1, each index serves.
abbrev pub IsFreeFromOr : ℕ → ℕ → ℕ → List Bool → ℕ → ℕ → Type 0
IsFreeFromOr from zeros multiple_of xs end i =
    let IsRun = AreFreeFrom xs from zeros (max multiple_of 1) in IsLeast IsRun i ⊎ (((k : ℕ) → ¬ IsRun k) × (i ≡ end))

-- how many of the pairs of the first `count` bits of two ranges `f` makes one
abbrev pub pair_count : (Bool → Bool → Bool) → (ℕ → List Bool) → (ℕ → List Bool) → ℕ → ℕ
pair_count f xs ys count = ones_in (zip_with f (xs count) (ys count))

-- the index of the first of these pairs that `f` makes one, and `count` where it makes none
abbrev pub IsFirstPair : (Bool → Bool → Bool) → (ℕ → List Bool) → (ℕ → List Bool) → ℕ → ℕ → Type 0
IsFirstPair f xs ys count i = IsFirstOr true (zip_with f (xs count) (ys count)) count i
