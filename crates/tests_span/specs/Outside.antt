-- What edits of several spans leave. `bits` is the width of a word, `at` takes an index in a word to its position in the number,
-- and a memory is the list of its words' numbers.
use Rattle.std.specs.Prelude.{◌≡◌, ℕ, pos, List}
use Rattle.bitvec_ptr.specs.Memory.{bit_of}
use Rattle.bitvec_span.specs.Span.{Span, Covers}

-- each bit that none of three spans covers is as before
abbrev pub KeepsOutside : ℕ → (ℕ → ℕ) → (a b c : Span) → (old new : List ℕ) → Type 0
KeepsOutside bits at a b c old new =
    (place : ℕ) → ¬ Covers bits a (pos place) → ¬ Covers bits b (pos place) → ¬ Covers bits c (pos place) → bit_of bits at new place ≡ bit_of bits at old place
