-- The bits of words of 64 bits each, whose number is known. `at` takes an index in a word to its position in the number, and
-- the words are a list of their numbers.
use Rattle.std.specs.Prelude.{ℕ, ◌*◌, min, Bool, List}
use Rattle.bitvec.specs.Place.{region_max_bits}
use Rattle.bitvec.specs.Span.{front_span, list_of}

-- how many bits `words` words have: all, or the most that a span can have
abbrev pub array_len : ℕ → ℕ
array_len words = min (words * 64) region_max_bits

-- which they are, in order
abbrev pub bits_in_words : (ℕ → ℕ) → ℕ → List ℕ → List Bool
bits_in_words at many words = list_of 64 at (front_span (array_len many)) words
