-- What the iterators over a slice's ones and zeros show.
use Rattle.std.specs.Prelude.{ℕ, List}
use Rattle.bitvec_slice.specs.BitSlice.{slice_bits}
use Rattle.bitvec_slice.specs.Bits.{ones_between, zeros_between}
use Rattle.bitvec_slice.specs.declared.slice.ones.IterOnes.{IterOnes}
use Rattle.bitvec_slice.specs.declared.slice.ones.IterZeros.{IterZeros}

-- the indices of ones that are still to come
abbrev pub ones_left : {R O : Type 0} {a b c d e f g h i : _} → IterOnes R O a b c d e f g h i → List ℕ
ones_left items = ones_between (slice_bits items.ahead.slice) items.ahead.next items.ahead.end

-- the indices of zeros that are still to come
abbrev pub zeros_left : {R O : Type 0} {a b c d e f g h i : _} → IterZeros R O a b c d e f g h i → List ℕ
zeros_left items = zeros_between (slice_bits items.ahead.slice) items.ahead.next items.ahead.end
