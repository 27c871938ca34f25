-- What a Bloom filter shows.
use Rattle.std.specs.Prelude.{Bool, List}
use Rattle.bitvec_slice.specs.BitSliceMut.{lent_bits, BecomesBits}
use Rattle.bitvec_slice.specs.declared.slice.bit_slice_mut.BitSliceMut.{BitSliceMut}
use Rattle.example_pages.specs.declared.bloom.Bloom.{Bloom}

-- its bits
abbrev pub filter_bits : {R O : Type 0} {a b c d e f g h i : _} → Bloom R O a b c d e f g h i → List Bool
filter_bits filter = lent_bits filter.bits

-- the filter's bits become those of a list, and every other bit of the words stays
abbrev pub BecomesFilter : {R O : Type 0} {a b c d e f g h i : _} → (old new : Bloom R O a b c d e f g h i) → List Bool → Type 0
BecomesFilter old new bits = BecomesBits old.bits new.bits bits

-- a filter is made of a slice: the slice's bits become those of a list, and every other bit of the words stays
abbrev pub MakesFilter : {R O : Type 0} {a b c d e f g h i : _} → BitSliceMut R O a b c d e f g h i → Bloom R O a b c d e f g h i → List Bool → Type 0
MakesFilter slice filter bits = BecomesBits slice filter.bits bits
