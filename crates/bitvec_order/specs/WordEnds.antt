-- The ones of a word by the indices of an order. `bits` is the width of a word, and `at` takes an index to its position.
use Rattle.std.specs.Prelude.{◌≡◌, ℕ, ◌<◌, true, false}
use Rattle.bitvec_mem.specs.Digit.{digit}

-- no index has a one
abbrev pub HasNoIndex : ℕ → (ℕ → ℕ) → ℕ → Type 0
HasNoIndex bits at w = (i : ℕ) → i < bits → digit w (at i) ≡ false

-- index i has a one, and none before it
abbrev pub IsFirstIndex : ℕ → (ℕ → ℕ) → ℕ → ℕ → Type 0
IsFirstIndex bits at w i = (i < bits) × (digit w (at i) ≡ true) × ((q : ℕ) → q < i → digit w (at q) ≡ false)

-- index i has a one, and none behind it
abbrev pub IsLastIndex : ℕ → (ℕ → ℕ) → ℕ → ℕ → Type 0
IsLastIndex bits at w i = (i < bits) × (digit w (at i) ≡ true) × ((q : ℕ) → i < q → q < bits → digit w (at q) ≡ false)
