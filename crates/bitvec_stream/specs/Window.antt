-- Elements of a list that are kept in a word.
use Rattle.std.specs.Prelude.{◌≡◌, ◌⊎◌, ℕ, ◌+◌, ◌-◌, ◌*◌, ◌<◌, ◌≤◌, Bool, false, List, length, take, drop}
use Rattle.bitvec.specs.Digit.{digit}
use Rattle.bitvec.specs.Order.{Rises, Falls}
use Rattle.bitvec.specs.Span.{element}
use Rattle.bitvec_slice.specs.Numbers.{number_le, number_be}
use Rattle.bitvec_stream.specs.Golomb.{BeginsWithCode}

-- A word of `bits` digits has `kept` elements of a list, from element `place` on: the first is its highest digit, and the
-- digits below theirs are zero.
pub record IsWindow (bits : ℕ) (xs : List Bool) (place kept w : ℕ) : Type 0 where
  pub shown : (j : ℕ) → j < kept → digit w (bits - 1 - j) ≡ element xs (place + j)
  pub clean : (p : ℕ) → p + kept < bits → digit w p ≡ false

-- A word of `bits` digits keeps `kept` elements of a list under an order: its digit at the position of index j is element
-- `place + j`. Its digits at the positions of the indices from `kept` on are zero.
pub record Keeps (bits : ℕ) (at : ℕ → ℕ) (xs : List Bool) (place kept w : ℕ) : Type 0 where
  pub shown : (j : ℕ) → j < kept → digit w (at j) ≡ element xs (place + j)
  pub clean : (j : ℕ) → kept ≤ j → j < bits → digit w (at j) ≡ false

-- positions rise or fall
abbrev pub RisesOrFalls : ℕ → (ℕ → ℕ) → Type 0
RisesOrFalls bits at = Rises bits at ⊎ Falls bits at

-- n is the number of a list's first `count` elements the way that an order's positions go: the first is the highest digit
-- where they fall, and the lowest where they rise.
pub record IsNumberOf (bits : ℕ) (at : ℕ → ℕ) (xs : List Bool) (count n : ℕ) : Type 0 where
  pub falls : Falls bits at → n ≡ number_be (take count xs)
  pub rises : Rises bits at → n ≡ number_le (take count xs)

-- A word w is another without the first `count` elements that it keeps, of whatever list: those behind come to their places.
abbrev pub PassesKept : ℕ → (ℕ → ℕ) → ℕ → ℕ → ℕ → Type 0
PassesKept bits at word count w =
    (xs : List Bool) (place kept : ℕ) → Keeps bits at xs place kept word → count ≤ kept → kept ≤ bits → Keeps bits at xs (place + count) (kept - count) w

-- A word w keeps what one does, `kept` elements of whatever list, and behind them those that another, `next`, keeps.
abbrev pub JoinsKept : ℕ → (ℕ → ℕ) → ℕ → ℕ → ℕ → ℕ → Type 0
JoinsKept bits at word kept next w =
    (xs : List Bool) (place : ℕ) → Keeps bits at xs place kept word → Keeps bits at xs (place + kept) bits next → Keeps bits at xs place bits w

-- n is the number of the first `count` elements of those that a word keeps, of whatever list.
abbrev pub IsKeptNumber : ℕ → (ℕ → ℕ) → ℕ → ℕ → ℕ → Type 0
IsKeptNumber bits at word count n =
    (xs : List Bool) (place kept : ℕ) → Keeps bits at xs place kept word → count ≤ kept → kept ≤ bits → place + kept ≤ length xs
    → IsNumberOf bits at (drop place xs) count n

-- A code of `len` digits, n the number of those behind its zeros, begins the `kept` elements that a word of the highest
-- digits first has, of whatever list.
abbrev pub IsKeptCode : ℕ → ℕ → ℕ → ℕ → ℕ → Type 0
IsKeptCode bits word kept len n =
    (len ≤ kept) × ((xs : List Bool) (place : ℕ) → IsWindow bits xs place kept word → place + kept ≤ length xs → BeginsWithCode (drop place xs) n len)

-- What a writer knows of the word where it stands; nothing where `kept` is 0. Else the order's positions fall, and w has
-- the elements of word m, a whole word of the list, which ends before element `end`. The last `kept` of them are the
-- digits of w from the highest down; those before them, from the last back, are its digits from the lowest up.
pub record IsKnown (bits : ℕ) (at : ℕ → ℕ) (head : ℕ) (xs : List Bool) (end kept m w : ℕ) : Type 0 where
  pub falls : 0 < kept → Falls bits at
  pub whole : 0 < kept → (kept ≤ bits) × (head ≤ m * bits) × (head + end ≡ m * bits + bits)
  pub ahead : (j : ℕ) → j < kept → digit w (bits - 1 - j) ≡ element xs (end - kept + j)
  pub before : 0 < kept → (j : ℕ) → j + kept < bits → digit w j ≡ element xs (end - kept - 1 - j)
