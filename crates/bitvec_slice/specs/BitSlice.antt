-- What a `BitSlice` shows.
use Rattle.std.specs.Prelude.{ℕ, Bool, List, map}
use Rattle.bitvec.specs.BitSpan.{span_of}
use Rattle.bitvec.specs.Span.{Span, list_of, word_of}
use Rattle.bitvec_slice.specs.declared.slice.bit_slice.BitSlice.{BitSlice}

-- the memory that it reads
abbrev pub slice_memory : {R O : Type 0} {a b c d e f g h i : _} → BitSlice R O a b c d e f g h i → List R
slice_memory slice = slice.memory.now

-- where its bits lie in that memory
abbrev pub slice_span : {R O : Type 0} {a b c d e f g h i : _} → BitSlice R O a b c d e f g h i → Span
slice_span slice = span_of slice.span

-- how many bits it has
abbrev pub slice_len : {R O : Type 0} {a b c d e f g h i : _} → BitSlice R O a b c d e f g h i → ℕ
slice_len slice = (slice_span slice).len

-- its bits, in order
abbrev pub slice_bits : {R O : Type 0} {a b c d e f g h i : _} → BitSlice R O a b c d e f g h i → List Bool
slice_bits {a = own} {i = order} slice = list_of own.BITS order.at_of (slice_span slice) (map own.number (slice_memory slice))

-- the number of word k of those that it meets: its bits there, and all other digits zero
abbrev pub slice_word : {R O : Type 0} {a b c d e f g h i : _} → BitSlice R O a b c d e f g h i → ℕ → ℕ
slice_word {a = own} {i = order} slice k = word_of own.BITS order.at_of (slice_span slice).head (slice_bits slice) k
