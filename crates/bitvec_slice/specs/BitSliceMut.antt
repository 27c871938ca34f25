-- What a `BitSliceMut` shows.
use Rattle.std.specs.Prelude.{◌≡◌, ℕ, ◌+◌, ◌%◌, Bool, List, map}
use Rattle.std.specs.Borrow.{MutBor}
use Rattle.bitvec.specs.Span.{Span, BecomesList, list_of}
use Rattle.bitvec_slice.specs.Ranges.{with_range}
use Rattle.bitvec_slice.specs.declared.slice.bit_slice_mut.BitSliceMut.{BitSliceMut}

-- the memory that it borrows
abbrev pub lent_memory : {R O : Type 0} {a b c d e f g h i : _} → BitSliceMut R O a b c d e f g h i → MutBor (List R)
lent_memory slice = slice.memory

-- where its bits lie in that memory
abbrev pub lent_span : {R O : Type 0} {a b c d e f g h i : _} → BitSliceMut R O a b c d e f g h i → Span
lent_span slice = record { word = slice.word; head = slice.head; len = slice.len }

-- how many bits it has
abbrev pub lent_len : {R O : Type 0} {a b c d e f g h i : _} → BitSliceMut R O a b c d e f g h i → ℕ
lent_len slice = (lent_span slice).len

-- the numbers of the memory's words
abbrev pub lent_words : {R O : Type 0} {a b c d e f g h i : _} → BitSliceMut R O a b c d e f g h i → List ℕ
lent_words {a = own} slice = map own.number (lent_memory slice).now

-- its bits, in order
abbrev pub lent_bits : {R O : Type 0} {a b c d e f g h i : _} → BitSliceMut R O a b c d e f g h i → List Bool
lent_bits {a = own} {i = order} slice = list_of own.BITS order.at_of (lent_span slice) (lent_words slice)

-- A slice's bits become those of a list, and all else stays: its place, its loan, every other bit of the memory, and the
-- list of every span beside it.
abbrev pub BecomesBits : {R O : Type 0} {a b c d e f g h i : _} → (old new : BitSliceMut R O a b c d e f g h i) → List Bool → Type 0
BecomesBits {a = own} {i = order} old new bits =
    (lent_bits new ≡ bits) × (lent_span new ≡ lent_span old) × ((lent_memory new).ghost_name ≡ (lent_memory old).ghost_name)
    × BecomesList own.BITS order.at_of (lent_span old) (lent_words old) (lent_words new) bits

-- the same where the elements of a list take the place of the slice's bits from number `from` to before number `to`
abbrev pub BecomesRange : {R O : Type 0} {a b c d e f g h i : _} → (old new : BitSliceMut R O a b c d e f g h i) → ℕ → ℕ → List Bool → Type 0
BecomesRange old new from to bits = BecomesBits old new (with_range (lent_bits old) from to bits)

-- the index in its word of a slice's bit of number `from`
abbrev pub lent_head : {R O : Type 0} {a b c d e f g h i : _} → BitSliceMut R O a b c d e f g h i → ℕ → ℕ
lent_head {a = own} slice from = ((lent_span slice).head + from) % own.BITS
