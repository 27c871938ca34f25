-- The words that a level lends.
use Rattle.std.specs.Prelude.{ℕ, pos, ◌*◌, ◌-◌, Bool, List, ◌∷◌, [], length, map, take, drop}
use Rattle.std.specs.Borrow.{GName, MutBor}
use Rattle.bitvec.specs.Span.{list_of}
use Rattle.freemap.specs.Blocks.{word_count}

-- the bits of words behind their first `bits`, in order
abbrev pub bits_behind : (ℕ → ℕ) → ℕ → List ℕ → List Bool
bits_behind at bits words = list_of 64 at (record { word = pos 0; head = bits; len = length words * 64 - bits }) words

-- words that a level lends: the loan's name, and the bits behind those of the marks
pub record LevelLoan : Type 0 where
  pub name : GName
  pub beyond : List Bool

-- those of a level of `marks` marks
abbrev pub loan_of : (ℕ → ℕ) → ℕ → MutBor (List ℕ) → LevelLoan
loan_of at marks words = record { name = words.ghost_name; beyond = bits_behind at marks words.now }

-- what lies behind the marks of each
abbrev pub behind_loans : List LevelLoan → List (List Bool)
behind_loans loans = map (λ loan. loan.beyond) loans

-- what lies behind the marks of two levels over `words` words of a map, in words that they share: those of the lower level first
abbrev pub behind_levels : (ℕ → ℕ) → ℕ → List ℕ → List (List Bool)
behind_levels at words summary =
    let groups = word_count words in bits_behind at words (take groups summary) ∷ bits_behind at groups (drop groups summary) ∷ []
