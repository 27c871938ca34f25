-- Words in which spans have bits. `bits` is the width of a word.
use Rattle.std.specs.Prelude.{ℕ, ℤ, ◌<◌}
use Rattle.bitvec_ptr.specs.Place.{place_at}
use Rattle.bitvec_span.specs.Span.{Span, Covers}

-- the span has a bit in the word: it covers the place of the bit at some index of the word
abbrev pub HasBitIn : ℕ → Span → ℤ → Type 0
HasBitIn bits span word = (bit : ℕ) × (bit < bits) × Covers bits span (place_at bits word bit)
