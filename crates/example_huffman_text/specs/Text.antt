-- A text of symbols: their codes, one behind the other.
use Rattle.std.specs.Prelude.{◌≡◌, ◌≤◌, ℕ, Bool, List, ◌++◌, length, take, slice_index}
use Rattle.std.specs.List.{All, flat_map}
use Rattle.bitvec_stream.specs.Golomb.{StartsWith}
use Rattle.bitvec_stream.specs.Numbers.{digits_be}
use Rattle.example_huffman.specs.Codes.{IsComplete, HasCode, code_of}

-- the bits of a symbol's code, the highest digit first
abbrev pub code_bits : List ℕ → ℕ → List Bool
code_bits lengths symbol = digits_be (slice_index lengths symbol) (code_of lengths symbol)

-- a list begins with a symbol's code
pub record BeginsWithSymbol (lengths : List ℕ) (xs : List Bool) (symbol : ℕ) : Type 0 where
  pub code : HasCode lengths symbol
  pub bits : StartsWith xs (code_bits lengths symbol)

-- the bits of symbols, one code behind the other
abbrev pub encoded_bits : List ℕ → List ℕ → List Bool
encoded_bits lengths symbols = flat_map (code_bits lengths) symbols

-- a list is the text of some symbols, which have codes
abbrev pub IsText : List ℕ → List ℕ → List Bool → Type 0
IsText lengths symbols xs = All (HasCode lengths) symbols × (xs ≡ encoded_bits lengths symbols)

-- symbols are the first `count` of a list
abbrev pub AreFirst : List ℕ → List ℕ → ℕ → Type 0
AreFirst symbols out count = (count ≡ length symbols) × (take count out ≡ symbols)

-- symbols have codes, and there is room for the bits of these
abbrev pub CanBeEncoded : List ℕ → List ℕ → ℕ → Type 0
CanBeEncoded lengths symbols room = All (HasCode lengths) symbols × (length (encoded_bits lengths symbols) ≤ room)

-- Bits begin with one text of so many symbols and no other, and what stands behind it is known: what was written is read.
abbrev pub OneText : Type 0
OneText =
    (lengths one other : List ℕ) (after left : List Bool) → IsComplete lengths → All (HasCode lengths) one → All (HasCode lengths) other
    → length one ≡ length other → encoded_bits lengths one ++ after ≡ encoded_bits lengths other ++ left → (one ≡ other) × (after ≡ left)
