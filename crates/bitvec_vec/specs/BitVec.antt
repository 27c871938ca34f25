-- What a `BitVec` shows.
use Rattle.std.specs.Prelude.{ℕ, ◌*◌, min, Bool, List, map, vec_capacity}
use Rattle.std.specs.Vec.{vec_allocator}
use Rattle.bitvec.specs.Place.{region_max_bits}
use Rattle.bitvec_vec.specs.Front.{front_bits}
use Rattle.bitvec_vec.specs.declared.vec.bit_vec.BitVec.{BitVec}

-- its bits, in order
abbrev pub vec_bits : {R O A : Type 0} {a b c d e f g h i : _} → BitVec R O A a b c d e f g h i → List Bool
vec_bits {a = own} {i = order} vec = front_bits own.BITS order.at_of vec.len (map own.number vec.words.items)

-- for how many bits there is room in its memory, but no more than a span can have
abbrev pub bit_capacity : {R O A : Type 0} {a b c d e f g h i : _} → BitVec R O A a b c d e f g h i → ℕ
bit_capacity {a = own} vec = min (vec_capacity vec.words * own.BITS) region_max_bits

-- the allocator that it asks for memory
abbrev pub bit_allocator : {R O A : Type 0} {a b c d e f g h i : _} → BitVec R O A a b c d e f g h i → A
bit_allocator vec = vec_allocator vec.words
