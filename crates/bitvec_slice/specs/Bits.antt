-- Lists of truth values: what is counted and found in one.
use Rattle.std.specs.Prelude.{◌≡◌, ℕ, ◌+◌, ◌-◌, ◌<◌, ◌≤◌, Bool, false, not, List, length, Option, MatchOption}
use Rattle.std.specs.List.{filter, range_with_len}
use Rattle.bitvec.specs.Digit.{count_below}
use Rattle.bitvec.specs.Span.{element}

-- how many elements of a list are false
abbrev pub zeros_in : List Bool → ℕ
zeros_in xs = count_below (λ i. not (element xs i)) (length xs)

-- element i of a list is the last that is `bit`
abbrev pub IsLast : Bool → List Bool → ℕ → Type 0
IsLast bit xs i = (i < length xs) × (element xs i ≡ bit) × ((j : ℕ) → i < j → j < length xs → element xs j ≡ not bit)

-- the last element of a list, if it has one
abbrev pub IsLastOf : List Bool → Option Bool → Type 0
IsLastOf xs result = MatchOption result (length xs ≡ 0) (λ bit. (0 < length xs) × (bit ≡ element xs (length xs - 1)))

-- every element of a list from index `from` to before index `upto` is `bit`
abbrev pub AllBetween : Bool → List Bool → ℕ → ℕ → Type 0
AllBetween bit xs from upto = (j : ℕ) → from ≤ j → j < upto → element xs j ≡ bit

-- element i of a list is, from index `from` to before index `upto`, the first that is `bit`
abbrev pub IsFirstBetween : Bool → List Bool → ℕ → ℕ → ℕ → Type 0
IsFirstBetween bit xs from upto i = (from ≤ i) × (i < upto) × (element xs i ≡ bit) × AllBetween (not bit) xs from i

-- element i of a list is, from index `from` to before index `upto`, the last that is `bit`
abbrev pub IsLastBetween : Bool → List Bool → ℕ → ℕ → ℕ → Type 0
IsLastBetween bit xs from upto i = (from ≤ i) × (i < upto) × (element xs i ≡ bit) × AllBetween (not bit) xs (i + 1) upto

-- the list begins with n elements that are `bit`, and no more
abbrev pub BeginsWith : Bool → List Bool → ℕ → Type 0
BeginsWith bit xs n = (n ≤ length xs) × ((j : ℕ) → j < n → element xs j ≡ bit) × (n < length xs → element xs n ≡ not bit)

-- the list ends with n elements that are `bit`, and no more
abbrev pub EndsWith : Bool → List Bool → ℕ → Type 0
EndsWith bit xs n = (n ≤ length xs) × ((j : ℕ) → length xs ≤ j + n → j < length xs → element xs j ≡ bit) × ((j : ℕ) → j + n + 1 ≡ length xs → element xs j ≡ not bit)

-- the `count` elements of a list from element i on are there, and false
abbrev pub AreFree : List Bool → ℕ → ℕ → Type 0
AreFree xs i count = (i + count ≤ length xs) × ((j : ℕ) → i ≤ j → j < i + count → element xs j ≡ false)

-- the first index from which on `count` elements of a list are there and false, if there is one
abbrev pub IsFirstFree : List Bool → ℕ → Option ℕ → Type 0
IsFirstFree xs count result =
    MatchOption result ((i : ℕ) → ¬ AreFree xs i count) (λ i. AreFree xs i count × ((k : ℕ) → k < i → ¬ AreFree xs k count))

-- the same from index `from` on
abbrev pub IsFirstFreeFrom : List Bool → ℕ → ℕ → Option ℕ → Type 0
IsFirstFreeFrom xs from count result =
    MatchOption result ((i : ℕ) → from ≤ i → ¬ AreFree xs i count)
    (λ i. (from ≤ i) × AreFree xs i count × ((k : ℕ) → from ≤ k → k < i → ¬ AreFree xs k count))

-- the first element from index `from` to before index `upto` that is `bit`, if there is one
abbrev pub FindsBetween : Bool → List Bool → ℕ → ℕ → Option ℕ → Type 0
FindsBetween bit xs from upto result = MatchOption result (AllBetween (not bit) xs from upto) (IsFirstBetween bit xs from upto)

-- the indices of the elements of a list that are true, from index `from` to before index `upto`, in rising order
abbrev pub ones_between : List Bool → ℕ → ℕ → List ℕ
ones_between xs from upto = filter (element xs) (range_with_len from (upto - from))

-- the same of those that are false, and of the indices past the list
abbrev pub zeros_between : List Bool → ℕ → ℕ → List ℕ
zeros_between xs from upto = filter (λ i. not (element xs i)) (range_with_len from (upto - from))
