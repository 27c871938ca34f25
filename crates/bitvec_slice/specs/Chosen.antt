-- Elements of a list that are the ones of a word. `bits` is the width of a word, and `at` takes an index to its position.
use Rattle.std.specs.Prelude.{◌≡◌, ℕ, ◌+◌, ◌-◌, ◌*◌, ◌<◌, ◌≤◌, ◌&&◌, min, Bool, not, List, Option, MatchOption, nat_le, nat_lt}
use Rattle.std.specs.Bool.{beq}
use Rattle.bitvec.specs.Digit.{digit}
use Rattle.bitvec.specs.Span.{element}
use Rattle.bitvec.specs.WordEnds.{IsFirstIndex}
use Rattle.bitvec_slice.specs.BitSlice.{slice_span, slice_len, slice_bits}
use Rattle.bitvec_slice.specs.Bits.{AllBetween}
use Rattle.bitvec_slice.specs.Field.{stretch_end}
use Rattle.bitvec_slice.specs.declared.slice.bit_slice.BitSlice.{BitSlice}

-- The ones of a word are the elements of a list from index `from` to before index `upto` that are `bit`, each at the index
-- that it has in word k of those that the list meets under a head.
pub record IsChosen (bits : ℕ) (at : ℕ → ℕ) (head : ℕ) (xs : List Bool) (k from upto : ℕ) (bit : Bool) (w : ℕ) : Type 0 where
  pub start : k * bits ≤ head + from
  pub end : head + upto ≤ (k + 1) * bits
  pub ones : (i : ℕ) → i < bits → digit w (at i)
      ≡ (nat_le (head + from) (k * bits + i) && nat_lt (k * bits + i) (head + upto) && beq (element xs (k * bits + i - head)) bit)

-- The ones of a word are the elements of a list from index `from` on that are `bit`, each at the index that it has in word k
-- of those that the list meets under a head. So it is before index `end`: digits from there on may be any.
pub record IsChosenFrom (bits : ℕ) (at : ℕ → ℕ) (head : ℕ) (xs : List Bool) (k from end : ℕ) (bit : Bool) (w : ℕ) : Type 0 where
  pub start : k * bits ≤ head + from
  pub ones : (i : ℕ) → i < bits → k * bits + i < head + end → digit w (at i) ≡ (nat_le (head + from) (k * bits + i) && beq (element xs (k * bits + i - head)) bit)

-- Of the elements of a list from index `from` on, the first that is `bit` is at index i in word k of those that the list
-- meets under a head. The ones of w are such elements of that word, up to index `upto`.
pub record IsFound (bits : ℕ) (at : ℕ → ℕ) (head : ℕ) (xs : List Bool) (bit : Bool) (from upto k w i : ℕ) : Type 0 where
  pub begin : ℕ
  pub later : from ≤ begin
  pub passed : AllBetween (not bit) xs from begin
  pub chosen : IsChosen bits at head xs k begin upto bit w
  pub first : IsFirstIndex bits at w i

-- where the elements of word k end, of those before index `end`
abbrev pub chosen_end : ℕ → ℕ → ℕ → ℕ → ℕ → ℕ
chosen_end end bits head len k = min end (stretch_end bits head len k)

-- The first word behind those before index `from` that has a slice's bit which is `bit`, before index `end`, with such bits of
-- it and the index of the first: as `IsFound` says. None where no bit before index `end` is such a one.
abbrev pub FindsWord : {R O : Type 0} {a b c d e f g h i : _} → BitSlice R O a b c d e f g h i → Bool → ℕ → ℕ → Option (ℕ × R × ℕ) → Type 0
FindsWord {a = own} {i = order} slice bit from end result =
    let found = IsFound own.BITS order.at_of (slice_span slice).head (slice_bits slice) bit from in
    let upto = chosen_end end own.BITS (slice_span slice).head (slice_len slice) in
    MatchOption result (AllBetween (not bit) (slice_bits slice) from end) (λ it. found (upto it.0) it.0 (own.number it.1) it.2)

-- the same, and the index of the word's first bit, counted from the first bit of word 0
abbrev pub FindsStart : {R O : Type 0} {a b c d e f g h i : _} → BitSlice R O a b c d e f g h i → Bool → ℕ → ℕ → Option (ℕ × ℕ × R × ℕ) → Type 0
FindsStart {a = own} {i = order} slice bit from end result =
    let found = IsFound own.BITS order.at_of (slice_span slice).head (slice_bits slice) bit from in
    let upto = chosen_end end own.BITS (slice_span slice).head (slice_len slice) in
    MatchOption result (AllBetween (not bit) (slice_bits slice) from end) (λ it. (it.1 ≡ it.0 * own.BITS) × found (upto it.0) it.0 (own.number it.2) it.3)
