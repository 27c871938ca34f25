-- Maps of words: which words of 64 blocks have no free block.
use Rattle.std.specs.Prelude.{◌≡◌, ◌⊎◌, ◌↔◌, ℕ, ◌+◌, ◌*◌, ◌/◌, ◌<◌, ◌≤◌, Bool, true, false, List, length}
use Rattle.bitvec.specs.Span.{element}
use Rattle.freemap.specs.Blocks.{word_count}

-- word w has no free block: each of its blocks that is there is in use
abbrev pub IsFull : List Bool → ℕ → Type 0
IsFull used w = (block : ℕ) → w * 64 ≤ block → block < w * 64 + 64 → block < length used → element used block ≡ true

-- the word of a block has no free block from it on
abbrev pub IsFullFrom : List Bool → ℕ → Type 0
IsFullFrom used from = (block : ℕ) → from ≤ block → block < (from / 64 + 1) * 64 → block < length used → element used block ≡ true

-- a block is the lowest free one of word w
pub record IsFirstFreeOf (used : List Bool) (w block : ℕ) : Type 0 where
  pub from : w * 64 ≤ block
  pub upto : block < w * 64 + 64
  pub inside : block < length used
  pub free : element used block ≡ false
  pub before : (k : ℕ) → w * 64 ≤ k → k < block → element used k ≡ true

-- how many words the summary of `blocks` blocks takes: a bit for each word of blocks, and one for each word of those
abbrev pub summary_words : ℕ → ℕ
summary_words blocks = word_count (word_count blocks) + word_count (word_count (word_count blocks))

-- a list says of word w whether it has no free block
abbrev pub SaysOf : (used full : List Bool) → ℕ → Type 0
SaysOf used full w = (element full w ≡ true) ↔ IsFull used w

-- a list has an element for each word of blocks, which is true exactly where that word has no free block
pub record Summarises (used full : List Bool) : Type 0 where
  pub words : length full ≡ word_count (length used)
  pub says : (w : ℕ) → w < length full → SaysOf used full w

-- the same but for the words from word `from` to before word `to`
pub record SummarisesBeside (used full : List Bool) (from to : ℕ) : Type 0 where
  pub words : length full ≡ word_count (length used)
  pub inside : to ≤ length full
  pub says : (w : ℕ) → (w < from) ⊎ (to ≤ w) → w < length full → SaysOf used full w
