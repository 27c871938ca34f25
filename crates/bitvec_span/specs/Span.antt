-- Spans as intervals of places, and their lists in a memory. `bits` is the width of a word, and a memory is the list of
-- its words' numbers.
use Rattle.std.specs.Prelude.{◌≡◌, ℕ, ℤ, pos, nat_abs, ◌+◌, ◌-◌, ◌*◌, ◌/◌, ◌%◌, ◌≤◌, ◌<◌, ◌+ℤ◌, ◌≤ℤ◌, ◌<ℤ◌, ◌==◌, ◌&&◌, if◌then◌else◌, Bool, false, List, ◌++◌, length, take, drop, replicate, slice_index_or, nat_le, nat_lt}
use Rattle.bitvec_order.specs.Order.{number_of}
use Rattle.bitvec_ptr.specs.Memory.{bit_of, tabulate}
use Rattle.std.specs.Int.{int_div_euclid}
use Rattle.bitvec_ptr.specs.Place.{Ptr, place_at, place_of, greatest_isize, words_met}
use Rattle.bitvec_ptr.specs.Steps.{IsIn}
pub use Rattle.bitvec_ptr.specs.Place.{region_max_bits}

-- a span by its numbers: the interval of `len` places from the bit `head` of a word on
pub record Span : Type 0 where
  pub word : ℤ
  pub head : ℕ
  pub len : ℕ

-- `len` bits from the bit number `place` of a memory on
abbrev pub span_at : ℕ → ℕ → ℕ → Span
span_at bits place len = record { word = pos (place / bits); head = place % bits; len = len }

-- the word of the place behind `len` bits from a pointer on
abbrev pub word_behind : ℕ → Ptr → ℕ → ℤ
word_behind bits ptr len = int_div_euclid (place_of bits ptr +ℤ pos len) (pos bits)

-- a length is one that a span may have, but from a pointer on it ends too high: the word behind it passes the greatest `isize`
abbrev pub EndsTooHigh : ℕ → Ptr → ℕ → Type 0
EndsTooHigh bits ptr len = (len ≤ region_max_bits) × (greatest_isize <ℤ word_behind bits ptr len)

-- the first `len` bits of a memory
abbrev pub front_span : ℕ → Span
front_span len = record { word = pos 0; head = 0; len = len }

-- The span lies within a memory of `words` words: the span's word is not negative, and its index and the number of words
-- that the span meets are together at most `words`. So the word of an empty span is from 0 to `words`.
abbrev pub Fits : ℕ → Span → ℕ → Type 0
Fits bits span words = (pos 0 ≤ℤ span.word) × (nat_abs span.word + words_met bits span.head span.len ≤ words)

-- every bit less than a span's length past a pointer lies in each memory that the span fits
abbrev pub HoldsFrom : ℕ → Span → Ptr → Type 0
HoldsFrom bits span ptr =
    (index words bit : ℕ) (word : ℤ) → place_at bits word bit ≡ place_of bits ptr +ℤ pos index → index < span.len → bit ≤ bits - 1
    → Fits bits span words → IsIn (record { word = word; bit = bit }) words

-- the first `mid` bits of a span
abbrev pub span_upto : Span → ℕ → Span
span_upto span mid = record { word = span.word; head = span.head; len = mid }

-- the bits of a span from its bit `mid` on
abbrev pub span_from : ℕ → Span → ℕ → Span
span_from bits span mid = record { word = span.word +ℤ pos ((span.head + mid) / bits); head = (span.head + mid) % bits; len = span.len - mid }

-- the bits of a span from its bit `from` to before its bit `to`
abbrev pub span_range : ℕ → Span → ℕ → ℕ → Span
span_range bits span from to = span_from bits (span_upto span to) from

-- the places of a span, in order
abbrev pub span_places : ℕ → Span → List ℤ
span_places bits span = tabulate span.len (λ j. place_at bits span.word span.head +ℤ pos j)

-- a place lies in the interval of a span
abbrev pub Covers : ℕ → Span → ℤ → Type 0
Covers bits span place = (place_at bits span.word span.head ≤ℤ place) × (place <ℤ (place_at bits span.word span.head +ℤ pos span.len))

-- no place lies in the intervals of both spans
abbrev pub AreDisjoint : ℕ → Span → Span → Type 0
AreDisjoint bits a b = (place : ℤ) → Covers bits a place → Covers bits b place → ⊥

-- the bits of a span in a memory, in order
abbrev pub list_of : ℕ → (ℕ → ℕ) → Span → List ℕ → List Bool
list_of bits at span words = tabulate span.len (λ j. bit_of bits at words (nat_abs span.word * bits + span.head + j))

-- in each memory from whose first word on a span lies, the lists of two others, joined, are the span's
abbrev pub ListsJoin : ℕ → Span → Span → Span → Type 0
ListsJoin bits first second span =
    (at : ℕ → ℕ) (words : List ℕ) → pos 0 ≤ℤ span.word → list_of bits at first words ++ list_of bits at second words ≡ list_of bits at span words

-- in each memory that a span fits, the list of another is the elements of the span's from `from` to before `to`
abbrev pub ListsRange : ℕ → Span → ℕ → ℕ → Span → Type 0
ListsRange bits span from to part =
    (at : ℕ → ℕ) (words : List ℕ) → Fits bits span (length words) → list_of bits at part words ≡ take (to - from) (drop from (list_of bits at span words))

-- every bit of a memory outside a span is as before
abbrev pub KeepsOthers : ℕ → (ℕ → ℕ) → Span → List ℕ → List ℕ → Type 0
KeepsOthers bits at span old new = (place : ℕ) → ¬ Covers bits span (pos place) → bit_of bits at new place ≡ bit_of bits at old place

-- the list of every span that is disjoint from a span is as before
abbrev pub KeepsLists : ℕ → (ℕ → ℕ) → Span → List ℕ → List ℕ → Type 0
KeepsLists bits at span old new =
    (word : ℤ) (head len : ℕ) → pos 0 ≤ℤ word → AreDisjoint bits span (record { word = word; head = head; len = len })
    → list_of bits at (record { word = word; head = head; len = len }) new ≡ list_of bits at (record { word = word; head = head; len = len }) old

-- The memory `new` is `old` with a list in the places of a span, and with all else as before: every bit outside the span,
-- so the list of every span that is disjoint from it, and the number of words.
pub record BecomesList (bits : ℕ) (at : ℕ → ℕ) (span : Span) (old new : List ℕ) (xs : List Bool) : Type 0 where
  pub list : list_of bits at span new ≡ xs
  pub others : KeepsOthers bits at span old new
  pub apart : KeepsLists bits at span old new
  pub words : length new ≡ length old

-- In each memory that a span fits, an edit of another span's list is one of the span's: its elements from `from` to before
-- `to` become those that the other's became.
abbrev pub EditsRange : ℕ → Span → ℕ → ℕ → Span → Type 0
EditsRange bits span from to part =
    (at : ℕ → ℕ) (old new : List ℕ) (xs : List Bool) → Fits bits span (length old) → BecomesList bits at part old new xs
    → BecomesList bits at span old new (take from (list_of bits at span old) ++ xs ++ drop to (list_of bits at span old))

-- bit j of a list, and false past its end
abbrev pub element : List Bool → ℕ → Bool
element xs j = slice_index_or xs j false

-- word k of a list under a head: the number whose digit at(i) is the list's element k * bits + i - head where there is
-- one, and whose other digits are zero
abbrev pub word_of : ℕ → (ℕ → ℕ) → ℕ → List Bool → ℕ → ℕ
word_of bits at head xs k = number_of at (λ i. nat_le head (k * bits + i) && element xs (k * bits + i - head)) bits

-- the words of a list under a head, one for each word that it meets
abbrev pub words_of : ℕ → (ℕ → ℕ) → ℕ → List Bool → List ℕ
words_of bits at head xs = tabulate (words_met bits head (length xs)) (word_of bits at head xs)

-- the list with f j in place of each bit j that lies in its word k
abbrev pub with_word : ℕ → ℕ → List Bool → ℕ → (ℕ → Bool) → List Bool
with_word bits head xs k f = tabulate (length xs) (λ j. if (head + j) / bits == k then f j else element xs j)

-- the list with one bit in place of each that lies in its words from word `from` to before word `upto`
abbrev pub with_words : ℕ → ℕ → List Bool → ℕ → ℕ → Bool → List Bool
with_words bits head xs from upto bit = tabulate (length xs) (λ j. if nat_le from ((head + j) / bits) && nat_lt ((head + j) / bits) upto then bit else element xs j)

-- the list with each bit from bit `from` to before bit `to` made the same
abbrev pub with_filled : List Bool → ℕ → ℕ → Bool → List Bool
with_filled xs from to bit = take from xs ++ replicate (to - from) bit ++ drop to xs
