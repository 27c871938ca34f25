-- Whole memories.
use Rattle.std.specs.Prelude.{◌≡◌, ℕ, ◌*◌, ◌≤◌, List, length}
use Rattle.bitvec.specs.Memory.{memory_bits}
use Rattle.bitvec.specs.Place.{region_max_bits}
use Rattle.bitvec.specs.Span.{Span, list_of}

-- a span's list in any memory of `count` words is the list of all its bits
abbrev pub ShowsMemory : ℕ → (ℕ → ℕ) → Span → ℕ → Type 0
ShowsMemory bits at span count = (words : List ℕ) → length words ≡ count → list_of bits at span words ≡ memory_bits bits at words

-- a memory of `words` words has the first `len` bits of a slice, and a slice can have that number of bits
abbrev pub IsFront : ℕ → ℕ → ℕ → Type 0
IsFront bits len words = (len ≤ words * bits) × (len ≤ region_max_bits)
