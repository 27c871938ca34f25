-- What edits of parts of a memory leave. `bits` is the width of a word, `at` takes an index in a word to its position in the
-- number, and a memory is the list of its words' numbers.
use Rattle.std.specs.Prelude.{◌≡◌, ℕ, ℤ, pos, ◌≤ℤ◌, List, All}
use Rattle.bitvec.specs.Memory.{bit_of}
use Rattle.bitvec.specs.Run.{IsOutside}
use Rattle.bitvec.specs.Span.{Span, AreDisjoint, list_of}

-- each bit outside the parts is as before
abbrev pub KeepsBitsBeside : ℕ → (ℕ → ℕ) → (parts : List Span) → (old new : List ℕ) → Type 0
KeepsBitsBeside bits at parts old new = (place : ℕ) → IsOutside bits (λ span. span) parts place → bit_of bits at new place ≡ bit_of bits at old place

-- the list of each span that is disjoint from each part is as before
abbrev pub KeepsListsBeside : ℕ → (ℕ → ℕ) → (parts : List Span) → (old new : List ℕ) → Type 0
KeepsListsBeside bits at parts old new =
    (word : ℤ) (head len : ℕ) → pos 0 ≤ℤ word → All (λ part. AreDisjoint bits part (record { word = word; head = head; len = len })) parts
    → list_of bits at (record { word = word; head = head; len = len }) new ≡ list_of bits at (record { word = word; head = head; len = len }) old
