-- Which blocks of a store are in use: a list with a truth value for each block.
use Rattle.std.specs.Prelude.{◌≡◌, ℕ, ◌+◌, ◌*◌, ◌/◌, ◌<◌, ◌≤◌, Bool, true, List, Option, MatchOption, length}
use Rattle.bitvec.specs.Span.{front_span, element, list_of, region_max_bits}
use Rattle.bitvec_slice.specs.Bits.{AreFree}
use Rattle.bitvec_slice.specs.Patterns.{IsLeast}

-- Whether each of `blocks` blocks is in use, as the words of a stored map say: bit after bit from the first word on, under
-- an order of the bits of a word.
abbrev pub stored_blocks : (ℕ → ℕ) → ℕ → List ℕ → List Bool
stored_blocks at blocks words = list_of 64 at (front_span blocks) words

-- how many words have `bits` bits, 64 each: the bits by 64, rounded up
abbrev pub word_count : ℕ → ℕ
word_count bits = (bits + 63) / 64

-- `words` words have room for the map of `blocks` blocks, and a map can have that number of blocks
abbrev pub HasRoom : ℕ → ℕ → Type 0
HasRoom words blocks = (blocks ≤ words * 64) × (blocks ≤ region_max_bits)

-- there are `count` blocks from block `at` on, and each is in use
abbrev pub AreInUse : List Bool → ℕ → ℕ → Type 0
AreInUse used at count = (at + count ≤ length used) × ((k : ℕ) → at ≤ k → k < at + count → element used k ≡ true)

-- an answer is the lowest block that is so, and `None` exactly where none is
abbrev pub IsLowest : (ℕ → Type 0) → Option ℕ → Type 0
IsLowest IsSo answer = MatchOption answer ((at : ℕ) → ¬ IsSo at) (IsLeast IsSo)

-- there are free runs of `most` blocks, and none of more
abbrev pub IsLargestRun : List Bool → ℕ → Type 0
IsLargestRun used most = ((at : ℕ) × AreFree used at most) × ((at count : ℕ) → AreFree used at count → count ≤ most)
