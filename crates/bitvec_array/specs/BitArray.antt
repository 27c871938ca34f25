-- What a `BitArray` shows.
use Rattle.std.specs.Prelude.{ℕ, Bool, List, replicate, refl}
use Rattle.bitvec_array.specs.Array.{bits_in_words}
use Rattle.bitvec_array.specs.declared.array.bit_array.BitArray.{BitArray}

-- its bits, in order
abbrev pub array_bits : {O : Type 0} {n : ℕ} {a b : _} → BitArray O n a b → List Bool
array_bits {n = many} {b = order} array = bits_in_words order.at_of many array.words

-- the array whose words are all zero
abbrev pub zero_array : {O : Type 0} {n : ℕ} {a b : _} → BitArray O n a b
zero_array {n = many} = record { words = replicate many 0; of = record {}; positions = refl }
