-- Words whose bits are put in the opposite order. A memory is the list of its words' numbers, `bits` is the width of a
-- word, and `at` takes an index in a word to its position in the number.
use Rattle.std.specs.Prelude.{◌≡◌, ℕ, nat_abs, ◌+◌, ◌-◌, ◌*◌, ◌<◌, ◌≤◌, List, length, slice_index}
use Rattle.bitvec.specs.Digit.{digit}
use Rattle.bitvec.specs.Span.{Span}

-- where an index is as far from the highest as another is from 0, so are their positions
abbrev pub Mirrors : ℕ → (ℕ → ℕ) → Type 0
Mirrors bits at = (i : ℕ) → i < bits → at (bits - 1 - i) ≡ bits - 1 - at i

-- `new` is `old` with its words in the opposite order, and the `bits` lowest digits of each
pub record TurnsWords (bits : ℕ) (old new : List ℕ) : Type 0 where
  pub words : length new ≡ length old
  pub digits : (k p : ℕ) → k < length old → p < bits → digit (slice_index new k) p ≡ digit (slice_index old (length old - 1 - k)) (bits - 1 - p)

-- in the word number k of those that a span meets the bits that are not the span's become those of the number `saved`,
-- and all else stays
pub record PutsBack (bits : ℕ) (at : ℕ → ℕ) (span : Span) (k saved : ℕ) (old new : List ℕ) : Type 0 where
  pub words : length new ≡ length old
  pub others : (w : ℕ) → (w ≡ nat_abs span.word + k → ⊥) → slice_index new w ≡ slice_index old w
  pub kept : (i : ℕ) → i < bits → span.head ≤ k * bits + i → k * bits + i < span.head + span.len → digit (slice_index new (nat_abs span.word + k)) (at i) ≡ digit (slice_index old (nat_abs span.word + k)) (at i)
  pub restored : (i : ℕ) → i < bits → (span.head ≤ k * bits + i → k * bits + i < span.head + span.len → ⊥) → digit (slice_index new (nat_abs span.word + k)) (at i) ≡ digit saved (at i)
