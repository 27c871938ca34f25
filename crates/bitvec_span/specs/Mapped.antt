-- Lists of bits that lie in words, with the bits in some of the words mapped. `bits` is the width of a word, and `head` the
-- index in a word of a list's first element.
use Rattle.std.specs.Prelude.{ℕ, ◌+◌, ◌/◌, ◌&&◌, Bool, List, length, nat_le, nat_lt, if◌then◌else◌}
use Rattle.bitvec_ptr.specs.Memory.{tabulate}
use Rattle.bitvec_span.specs.Span.{element}

-- the list with f of each bit in its place that lies in the list's words from word `from` to before word `upto`
abbrev pub with_mapped : (Bool → Bool) → ℕ → ℕ → List Bool → ℕ → ℕ → List Bool
with_mapped f bits head xs from upto =
    tabulate (length xs) (λ j. if nat_le from ((head + j) / bits) && nat_lt ((head + j) / bits) upto then f (element xs j) else element xs j)
