-- What a command to one word of a span does to a memory, and what it answers: none where the span meets no such word.
use Rattle.std.specs.Prelude.{ℕ, ◌≡◌, ◌<◌, ◌≤◌, Bool, List, map, Option, Some, None, slice_index}
use Rattle.bitvec_ptr.specs.Place.{words_met}
use Rattle.bitvec_span.specs.declared.ptr.span.BitSpan.{BitSpan}
use Rattle.bitvec_span.specs.Span.{word_of}
use Rattle.bitvec_span.specs.BitSpan.{span_of, list_by}
use Rattle.bitvec_span.specs.Slot.{slot_of, EditsPart}

-- the answer is word k of the span's list
abbrev pub LoadsWord : {R O : Type 0} {a b c d e f g : _} → BitSpan R O a b c d e f g → ℕ → (ℕ → ℕ) → List R → Option R → Type 0
LoadsWord {a = own} span k at words None = words_met own.BITS span.head span.len ≤ k
LoadsWord {a = own} span k at words (Some answer) =
    (k < words_met own.BITS span.head span.len) × (own.number answer ≡ word_of own.BITS at span.head (list_by span at words) k)

-- The span's bits in its word k were made others, which made the memory `old` the memory `new`; the answer is the part's
-- value before. `after` gives the bit at each index, from the number of the whole word as it was.
abbrev pub EditsWord : {R O : Type 0} {a b c d e f g : _} → BitSpan R O a b c d e f g → ℕ → (ℕ → ℕ) → (ℕ → ℕ → Bool) → List R → List R → Option R → Type 0
EditsWord {a = own} span k at after old new None = (words_met own.BITS span.head span.len ≤ k) × (new ≡ old)
EditsWord {a = own} span k at after old new (Some answer) =
    let slot = slot_of own.BITS (span_of span) k in
    (k < words_met own.BITS span.head span.len)
    × EditsPart own.BITS at slot (after (slice_index (map own.number old) slot.word)) (map own.number old) (map own.number new) (own.number answer)
