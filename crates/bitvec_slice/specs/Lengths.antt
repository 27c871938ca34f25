-- Lists of a span in any memory.
use Rattle.std.specs.Prelude.{◌≡◌, ℕ, List, length}
use Rattle.bitvec.specs.Span.{Span, list_of}

-- the list of a span in a memory has one bit for each bit of the span, whatever the memory's words are
abbrev pub HasLength : ℕ → (ℕ → ℕ) → Span → Type 0
HasLength bits at span = (words : List ℕ) → length (list_of bits at span words) ≡ span.len
