-- What complete codes are good for.
use Rattle.std.specs.Prelude.{◌≡◌, ℕ, ◌+◌, ◌*◌, ◌<◌, ◌≤◌, List, slice_index}
use Rattle.example_huffman.specs.Codes.{IsComplete, HasCode, code_of}

-- The numbers that a text begins with, by how many bits they are of: each is twice the one before, or one more than that.
abbrev pub AreBeginnings : ℕ → (ℕ → ℕ) → Type 0
AreBeginnings many at = (at 0 ≡ 0) × ((k : ℕ) → k < many → (2 * at k ≤ at (k + 1)) × (at (k + 1) ≤ 2 * at k + 1))

-- a text of `many` bits begins with a symbol's code
abbrev pub BeginsWithCode : List ℕ → ℕ → (ℕ → ℕ) → ℕ → Type 0
BeginsWithCode lengths many at symbol =
    HasCode lengths symbol × (slice_index lengths symbol ≤ many) × (at (slice_index lengths symbol) ≡ code_of lengths symbol)

-- a text begins with the code of at most one symbol
abbrev pub OneSymbol : Type 0
OneSymbol =
    (lengths : List ℕ) (many : ℕ) (at : ℕ → ℕ) (s t : ℕ) → IsComplete lengths → AreBeginnings many at
    → BeginsWithCode lengths many at s → BeginsWithCode lengths many at t → s ≡ t

-- and one of 15 bits with the code of some symbol
abbrev pub SomeSymbol : Type 0
SomeSymbol =
    (lengths : List ℕ) (many : ℕ) (at : ℕ → ℕ) → IsComplete lengths → AreBeginnings many at → 15 ≤ many
    → (symbol : ℕ) × BeginsWithCode lengths many at symbol
