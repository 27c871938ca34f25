-- Numbers in lists of bits that lie in the words of a memory. `bits` is the width of a word, `head` the index in a word
-- of a list's first element, `len` the list's length, and `rises` whether positions rise with the index.
use Rattle.std.specs.Prelude.{◌≡◌, ℕ, ◌+◌, ◌-◌, ◌*◌, ◌/◌, ◌<◌, ◌≤◌, ◌==◌, ◌&&◌, min, Bool, false, not, List, length, if◌then◌else◌}
use Rattle.bitvec.specs.Digit.{digit}
use Rattle.bitvec.specs.Memory.{tabulate}
use Rattle.bitvec.specs.Order.{number_of}
use Rattle.bitvec.specs.Span.{element}

-- the position of an index: the index itself, or as far from the other end of the word
abbrev pub position_of : ℕ → Bool → ℕ → ℕ
position_of bits rises i = if rises then i else bits - 1 - i

-- the positions of an order all rise with the index, or all fall: each index below the width has `position_of` of it
pub record IsSequential (bits : ℕ) (rises : Bool) (at : ℕ → ℕ) : Type 0 where
  pub positions : (i : ℕ) → i < bits → at i ≡ position_of bits rises i

-- the first of a list's elements that word k has
abbrev pub stretch_start : ℕ → ℕ → ℕ → ℕ
stretch_start bits head k = k * bits - head

-- one past the last of them
abbrev pub stretch_end : ℕ → ℕ → ℕ → ℕ → ℕ
stretch_end bits head len k = min len (k * bits + bits - head)

-- the number of an element in the word of element j: it stands as far before the last of the word's elements as element j
-- stands behind the first of them
abbrev pub mirrored : ℕ → ℕ → ℕ → ℕ → ℕ
mirrored bits head len j = let k = (head + j) / bits in stretch_start bits head k + stretch_end bits head len k - 1 - j

-- Which digit of the number element j is. What a word has of the list are digits of the number as they are digits of the
-- word, in the same order. The digits from the first word are the lowest, or where `big` the highest.
abbrev pub digit_place : Bool → ℕ → Bool → ℕ → ℕ → ℕ → ℕ
digit_place big bits rises head len j =
    let m = if (if big then rises else not rises) then mirrored bits head len j else j in
    if big then len - 1 - m else m

-- where word k's part begins in the number: it has the part's digits from this place on
abbrev pub part_place : Bool → ℕ → ℕ → ℕ → ℕ → ℕ
part_place big bits head len k = if big then len - stretch_end bits head len k else stretch_start bits head k

-- how far up in its word's part element j lies
abbrev pub part_step : Bool → ℕ → ℕ → ℕ → ℕ → ℕ → ℕ
part_step rises bits head len k j = if rises then j - stretch_start bits head k else stretch_end bits head len k - 1 - j

-- where word k's part begins in the word
abbrev pub part_shift : Bool → ℕ → ℕ → ℕ → ℕ → ℕ
part_shift rises bits head len k = if rises then stretch_start bits head k + head - k * bits else k * bits + bits - (head + stretch_end bits head len k)

-- A number has the elements of word k as its digits, from the lowest on, and no digit past them. `bit` of j is element j.
pub record IsWordPart (rises : Bool) (bits head len k : ℕ) (bit : ℕ → Bool) (v : ℕ) : Type 0 where
  pub digits : (j : ℕ) → j < len → (head + j) / bits ≡ k → digit v (part_step rises bits head len k j) ≡ bit j
  pub past : (p : ℕ) → stretch_end bits head len k - stretch_start bits head k ≤ p → digit v p ≡ false

-- A number has the elements of word k as those of its digits that they are in the number of the whole list, and no other.
pub record IsPlacedPart (big : Bool) (bits : ℕ) (rises : Bool) (head len k : ℕ) (bit : ℕ → Bool) (r : ℕ) : Type 0 where
  pub digits : (j : ℕ) → j < len → digit r (digit_place big bits rises head len j) ≡ (((head + j) / bits == k) && bit j)
  pub past : (q : ℕ) → len ≤ q → digit r q ≡ false

-- the number of a list: its digit at `digit_place` of j is element j
abbrev pub field_number : Bool → ℕ → Bool → ℕ → List Bool → ℕ
field_number big bits rises head xs = number_of (digit_place big bits rises head (length xs)) (element xs) (length xs)

-- a number has the elements of a list as digits: its digit at `digit_place` of j is element j
abbrev pub HasFieldDigits : Bool → ℕ → Bool → ℕ → List Bool → ℕ → Type 0
HasFieldDigits big bits rises head xs n = (j : ℕ) → j < length xs → digit n (digit_place big bits rises head (length xs) j) ≡ element xs j

-- the list of a number: its element j is the digit at `digit_place` of j
abbrev pub field_list : Bool → ℕ → Bool → ℕ → ℕ → ℕ → List Bool
field_list big bits rises head len number = tabulate len (λ j. digit number (digit_place big bits rises head len j))
