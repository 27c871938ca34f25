-- The digits of a word that are one, at its two ends. `bits` is the word's width.
use Rattle.std.specs.Prelude.{◌≡◌, ℕ, ◌<◌, true, false, not, ◌==◌, ◌&&◌}
use Rattle.bitvec_mem.specs.Digit.{digit}

-- no digit of the word is one
abbrev pub HasNoOne : ℕ → ℕ → Type 0
HasNoOne bits w = (p : ℕ) → p < bits → digit w p ≡ false

-- digit p of the word is one, and none below it
abbrev pub IsLowestOne : ℕ → ℕ → ℕ → Type 0
IsLowestOne bits w p = (p < bits) × (digit w p ≡ true) × ((q : ℕ) → q < p → digit w q ≡ false)

-- digit p of the word is one, and none above it
abbrev pub IsHighestOne : ℕ → ℕ → ℕ → Type 0
IsHighestOne bits w p = (p < bits) × (digit w p ≡ true) × ((q : ℕ) → p < q → q < bits → digit w q ≡ false)

-- a word with its lowest one made zero: every other digit stays, and a word that has no one stays without one
pub record IsWithoutLowestOne (bits old new : ℕ) : Type 0 where
  pub none : HasNoOne bits old → HasNoOne bits new
  pub digits : (p : ℕ) → IsLowestOne bits old p → (q : ℕ) → q < bits → digit new q ≡ (digit old q && not (q == p))
