-- What a `BitSpan` shows.
use Rattle.std.specs.Prelude.{ℕ, pos, Bool, List, map}
use Rattle.std.proofs.Common.{zero-le}
use Rattle.bitvec_span.specs.SpanLemmas.{empty-low}
use Rattle.bitvec_span.specs.declared.ptr.span.BitSpan.{BitSpan}
use Rattle.bitvec_span.specs.Span.{Span, list_of, BecomesList}

-- the word, the head and the length of a span
abbrev pub span_of : {R O : Type 0} {a b c d e f g : _} → BitSpan R O a b c d e f g → Span
span_of span = record { word = span.word; head = span.head; len = span.len }

-- the truth values at a span's places in a memory of words as it is of, by the positions of an order: `list_of` by the
-- span's own width and numbers
abbrev pub list_by : {R O : Type 0} {a b c d e f g : _} → BitSpan R O a b c d e f g → (ℕ → ℕ) → List R → List Bool
list_by {a = own} span at words = list_of own.BITS at (span_of span) (map own.number words)

-- a span's bits in a memory become those of a list, by the positions of an order, and all else stays: `BecomesList` by
-- the span's own width and numbers
abbrev pub Becomes : {R O : Type 0} {a b c d e f g : _} → BitSpan R O a b c d e f g → (ℕ → ℕ) → List R → List R → List Bool → Type 0
Becomes {a = own} span at old new xs = BecomesList own.BITS at (span_of span) (map own.number old) (map own.number new) xs

-- the span of no bits, from the first bit of the first word on
abbrev pub empty_span : {R O : Type 0} {a b c d e f g : _} → BitSpan R O a b c d e f g
empty_span {a = own} = record { word = pos 0; head = 0; len = 0; of = record {}; in_word = zero-le; short = zero-le; low = empty-low own.BITS }
