-- Primes, and lists of truth values that say of each number whether it is one.
use Rattle.std.specs.Prelude.{◌≡◌, ℕ, ◌%◌, ◌<◌, ◌↔◌, Bool, true, List, length}
use Rattle.bitvec.specs.Span.{element}

-- no number between 1 and n that is below `upto` divides n, and n is above 1
abbrev pub HasNoDivisorBelow : ℕ → ℕ → Type 0
HasNoDivisorBelow upto n = (1 < n) × ((d : ℕ) → 1 < d → d < upto → d < n → ¬ (n % d ≡ 0))

-- a number above 1 that no number between 1 and it divides
abbrev pub IsPrime : ℕ → Type 0
IsPrime n = (1 < n) × ((d : ℕ) → 1 < d → d < n → ¬ (n % d ≡ 0))

-- element n of a list is true exactly where P holds of n
abbrev pub IsSetOf : (ℕ → Type 0) → List Bool → Type 0
IsSetOf P xs = (n : ℕ) → n < length xs → (element xs n ≡ true) ↔ P n

-- one list has the numbers of another, but for the multiples of a number that are greater than it
abbrev pub LacksMultiples : ℕ → (old new : List Bool) → Type 0
LacksMultiples number old new =
    (n : ℕ) → n < length old → (element new n ≡ true) ↔ ((element old n ≡ true) × (¬ ((number < n) × (n % number ≡ 0))))
