-- Words of a memory that have the digits of a number, and words merged of two.
use Rattle.std.specs.Prelude.{◌≡◌, ℕ, ◌+◌, ◌-◌, ◌*◌, ◌/◌, ◌%◌, ◌<◌, ◌≤◌, ◌&&◌, Bool, nat_le, nat_lt, if◌then◌else◌, List, map, nat_abs, slice_index}
use Rattle.bitvec.specs.Digit.{digit}
use Rattle.bitvec.specs.Span.{Span, with_word}
use Rattle.bitvec_slice.specs.BitSlice.{slice_memory, slice_span}
use Rattle.bitvec_slice.specs.declared.slice.bit_slice.BitSlice.{BitSlice}

-- the words of a memory from word `from` to before word `upto` have the `bits` lowest digits of a number
abbrev pub HaveDigits : ℕ → ℕ → List ℕ → ℕ → ℕ → Type 0
HaveDigits bits number words from upto = (w p : ℕ) → from ≤ w → w < upto → p < bits → digit (slice_index words w) p ≡ digit number p

-- the same of the words that a slice lies in, counted from its first
abbrev pub SliceHasDigits : {R O : Type 0} {a b c d e f g h i : _} → BitSlice R O a b c d e f g h i → R → ℕ → ℕ → Type 0
SliceHasDigits {a = own} slice word from upto =
    let first = nat_abs (slice_span slice).word in HaveDigits own.BITS (own.number word) (map own.number (slice_memory slice)) (first + from) (first + upto)

-- digit p of the word that has the digits of one word from digit `by` on, and above them those of another
abbrev pub merged_digit : ℕ → ℕ → ℕ → ℕ → ℕ → Bool
merged_digit bits by low high p = if nat_lt (by + p) bits then digit low (by + p) else digit high (by + p - bits)

-- A word's digits moved to the indices from `head` on, the lowest first where positions rise; where they fall, the digit
-- before number `len` first. This is the one at index m.
abbrev pub digit_from : Bool → ℕ → ℕ → ℕ → ℕ → Bool
digit_from rises head len word m = if rises then nat_le head m && digit word (m - head) else nat_lt m (head + len) && digit word (head + len - 1 - m)

-- a span has word k of those that it meets whole
abbrev pub HasWord : ℕ → Span → ℕ → Type 0
HasWord bits span k = (span.head ≤ k * bits) × (k * bits + bits ≤ span.head + span.len)

-- a list with the digits of a word, by an order's positions, in place of the elements that lie in word k
abbrev pub with_digits : ℕ → (ℕ → ℕ) → ℕ → List Bool → ℕ → ℕ → List Bool
with_digits bits at head xs k w = with_word bits head xs k (λ j. digit w (at ((head + j) % bits)))

-- The word w has the elements of a span that lie in the k-th word which the span meets: the digit of w at the position of
-- element j is `value` of j.
abbrev pub HasElements : ℕ → (ℕ → ℕ) → Span → ℕ → ℕ → (ℕ → Bool) → Type 0
HasElements bits at span k w value = (j : ℕ) → j < span.len → (span.head + j) / bits ≡ k → digit w (at ((span.head + j) % bits)) ≡ value j

-- the ones of the word w are the positions of a span's elements in its k-th word
abbrev pub IsPartMask : ℕ → (ℕ → ℕ) → Span → ℕ → ℕ → Type 0
IsPartMask bits at span k w = (i : ℕ) → i < bits → digit w (at i) ≡ (nat_le span.head (k * bits + i) && nat_lt (k * bits + i) (span.head + span.len))
