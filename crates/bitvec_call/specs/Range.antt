-- Ranges of the bits of a memory. A place counts the bits of a memory from 0 on, `bits` is the width of a word, `at` takes
-- an index in a word to its position in the number, and a memory is the list of its words' numbers.
use Rattle.std.specs.Prelude.{◌≡◌, ℕ, pos, ◌/◌, ◌%◌, Bool, List, map, slice_set}
use Rattle.bitvec.specs.Memory.{bit_of, memory_bits, list_with, list_with_copy, zip_with}
use Rattle.bitvec.specs.Place.{Ptr}
use Rattle.bitvec.specs.Span.{BecomesList, span_at, list_of}
use Rattle.bitvec_call.specs.Order.{order_at}

-- the word and the index in it of a place
abbrev pub place_ptr : ℕ → ℕ → Ptr
place_ptr bits place = record { word = pos (place / bits); bit = place % bits }

-- the `count` bits from place `start` on in a memory, in order
abbrev pub range_bits : ℕ → (ℕ → ℕ) → ℕ → ℕ → List ℕ → List Bool
range_bits bits at start count words = list_of bits at (span_at bits start count) words

-- the bits of a range become those of a list, and all else stays: every other bit of the memory, so the list of every span
-- beside the range, and the number of words
abbrev pub RangeBecomes : ℕ → (ℕ → ℕ) → ℕ → ℕ → List Bool → List ℕ → List ℕ → Type 0
RangeBecomes bits at start count xs old new = BecomesList bits at (span_at bits start count) old new xs

-- the bits from place `start` on in a memory of words, each of which has a number: as many as are asked for
abbrev pub bits_in : {W : Type 0} → (W → ℕ) → ℕ → (ℕ → ℕ) → ℕ → List W → ℕ → List Bool
bits_in number bits at start memory count = range_bits bits at start count (map number memory)

-- the same under the order of a code
abbrev pub coded_bits : {W : Type 0} → (W → ℕ) → ℕ → ℕ → ℕ → List W → ℕ → List Bool
coded_bits number bits order start memory count = bits_in number bits (order_at bits order) start memory count

-- the bits of a range of a memory of words become those of a list, and all else stays
abbrev pub MemoryBecomes : {W : Type 0} → (W → ℕ) → ℕ → (ℕ → ℕ) → ℕ → ℕ → List Bool → List W → List W → Type 0
MemoryBecomes number bits at start count xs old new = RangeBecomes bits at start count xs (map number old) (map number new)

-- they become what `f` makes of their list
abbrev pub MemoryEdits : {W : Type 0} → (List Bool → List Bool) → (W → ℕ) → ℕ → (ℕ → ℕ) → ℕ → ℕ → List W → List W → Type 0
MemoryEdits f number bits at start count old new = MemoryBecomes number bits at start count (f (bits_in number bits at start old count)) old new

-- they become what `f` makes of them and of those of a list
abbrev pub MemoryCombines : {W : Type 0} → (Bool → Bool → Bool) → (W → ℕ) → ℕ → (ℕ → ℕ) → ℕ → ℕ → List Bool → List W → List W → Type 0
MemoryCombines f number bits at start count xs old new = MemoryEdits (λ ys. zip_with f ys xs) number bits at start count old new

-- the same under the order of a code
abbrev pub CodedCombines : {W : Type 0} → (Bool → Bool → Bool) → (W → ℕ) → ℕ → ℕ → ℕ → ℕ → List Bool → List W → List W → Type 0
CodedCombines f number bits order start count xs old new = MemoryCombines f number bits (order_at bits order) start count xs old new

-- two ranges of as many bits, each in a memory of its own, have the same bits
abbrev pub HaveSameBits : ℕ → (ℕ → ℕ) → ℕ → List ℕ → ℕ → List ℕ → ℕ → Type 0
HaveSameBits bits at start words other_start other_words count = range_bits bits at start count words ≡ range_bits bits at other_start count other_words

-- the bit at a place becomes `bit`, and every other bit of the memory is as before
abbrev pub WritesBit : ℕ → (ℕ → ℕ) → ℕ → Bool → List ℕ → List ℕ → Type 0
WritesBit bits at place bit old new = memory_bits bits at new ≡ slice_set (memory_bits bits at old) place bit

-- each of the bits at two places becomes what the other was, and every other bit of the memory is as before
abbrev pub ExchangesBits : ℕ → (ℕ → ℕ) → ℕ → ℕ → List ℕ → List ℕ → Type 0
ExchangesBits bits at place other old new =
    memory_bits bits at new ≡ slice_set (slice_set (memory_bits bits at old) place (bit_of bits at old other)) other (bit_of bits at old place)

-- the `count` bits of a memory from place `to` on become those of a source from place `from` on, and every other bit is as
-- before
abbrev pub CopiesBits : ℕ → (ℕ → ℕ) → List ℕ → ℕ → List ℕ → ℕ → ℕ → List ℕ → Type 0
CopiesBits bits at source from old to count new = memory_bits bits at new ≡ list_with_copy (memory_bits bits at source) from (memory_bits bits at old) to count

-- the `count` bits of a memory from place `to` on become what `f` makes of them and of those of a source from place `from` on,
-- and every other bit is as before
abbrev pub CombinesBits : (Bool → Bool → Bool) → ℕ → (ℕ → ℕ) → List ℕ → ℕ → List ℕ → ℕ → ℕ → List ℕ → Type 0
CombinesBits f bits at source from old to count new = memory_bits bits at new ≡ list_with f (memory_bits bits at source) from (memory_bits bits at old) to count
