-- The first bits of a memory. `bits` is the width of a word, `at` takes an index in a word to its position in the number,
-- and a memory is the list of its words' numbers.
use Rattle.std.specs.Prelude.{ℕ, Bool, List, map}
use Rattle.bitvec.specs.Place.{words_met}
use Rattle.bitvec.specs.Span.{front_span, list_of}

-- the first `len` bits, in order
abbrev pub front_bits : ℕ → (ℕ → ℕ) → ℕ → List ℕ → List Bool
front_bits bits at len words = list_of bits at (front_span len) words

-- the first `len` bits of words, each of which is the number that `number` says
abbrev pub front_of : {R : Type 0} → ℕ → (ℕ → ℕ) → (R → ℕ) → ℕ → List R → List Bool
front_of bits at number len words = front_bits bits at len (map number words)

-- how many words `len` bits take: those that the first `len` bits of a memory meet
abbrev pub words_for : ℕ → ℕ → ℕ
words_for bits len = words_met bits 0 len
