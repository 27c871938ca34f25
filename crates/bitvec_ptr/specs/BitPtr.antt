-- What a `BitPtr` shows.
use Rattle.std.specs.Prelude.{ℕ, pos, nat_abs, ◌+◌, Bool, List, map}
use Rattle.std.proofs.Common.{zero-le}
use Rattle.bitvec_ptr.specs.declared.ptr.single.BitPtr.{BitPtr}
use Rattle.bitvec_ptr.specs.Memory.{memory_bits, bit_of, list_with_copy, list_with}
use Rattle.bitvec_ptr.specs.Place.{Ptr, memory_place, words_met}

-- the word and the bit of a pointer
abbrev pub ptr_of : {R O : Type 0} {a b c d e f g : _} → BitPtr R O a b c d e f g → Ptr
ptr_of ptr = record { word = ptr.word; bit = ptr.bit }

-- the pointer to the first bit of the first word
abbrev pub dangling : {R O : Type 0} {a b c d e f g : _} → BitPtr R O a b c d e f g
dangling = record { word = pos 0; bit = 0; of = record {}; in_word = zero-le }

-- the place of a pointer into a memory, as an index of the list of the memory's bits: `memory_place` by the pointer's own
-- width and numbers
abbrev pub ptr_place : {R O : Type 0} {a b c d e f g : _} → BitPtr R O a b c d e f g → ℕ
ptr_place {a = own} ptr = memory_place own.BITS (ptr_of ptr)

-- the bits of a memory of such words as the pointer is into, by the positions of an order: `memory_bits` by the pointer's
-- own width and its words' numbers
abbrev pub bits_by : {R O : Type 0} {a b c d e f g : _} → BitPtr R O a b c d e f g → (ℕ → ℕ) → List R → List Bool
bits_by {a = own} ptr at words = memory_bits own.BITS at (map own.number words)

-- bit j of those from a pointer on, in a memory of such words as it is into, by the positions of an order
abbrev pub bit_by : {R O : Type 0} {a b c d e f g : _} → BitPtr R O a b c d e f g → (ℕ → ℕ) → List R → ℕ → Bool
bit_by {a = own} ptr at words j = bit_of own.BITS at (map own.number words) (memory_place own.BITS (ptr_of ptr) + j)

-- the bit to which a pointer into a memory points, by the positions of an order
abbrev pub pointed_bit : {R O : Type 0} {a b c d e f g : _} → BitPtr R O a b c d e f g → (ℕ → ℕ) → List R → Bool
pointed_bit {a = own} ptr at words = bit_of own.BITS at (map own.number words) (ptr_place ptr)

-- the bits of a target memory, with `count` of them from `dest` on replaced by those of a source from a pointer on
abbrev pub bits_with_copy : {R O R2 O2 : Type 0} {a b c d e f g a2 b2 c2 d2 e2 f2 g2 : _}
    → BitPtr R O a b c d e f g → (ℕ → ℕ) → List R → BitPtr R2 O2 a2 b2 c2 d2 e2 f2 g2 → (ℕ → ℕ) → List R2 → ℕ → List Bool
bits_with_copy ptr at source dest at2 target count =
    list_with_copy (bits_by ptr at source) (ptr_place ptr) (bits_by dest at2 target) (ptr_place dest) count

-- the bits of a target memory, with `count` of them from `dest` on each replaced by what `of` makes of it and of a source's
-- bit, from a pointer on
abbrev pub bits_with : {R O R2 O2 : Type 0} {a b c d e f g a2 b2 c2 d2 e2 f2 g2 : _} → (Bool → Bool → Bool)
    → BitPtr R O a b c d e f g → (ℕ → ℕ) → List R → BitPtr R2 O2 a2 b2 c2 d2 e2 f2 g2 → (ℕ → ℕ) → List R2 → ℕ → List Bool
bits_with of ptr at source dest at2 target count =
    list_with of (bits_by ptr at source) (ptr_place ptr) (bits_by dest at2 target) (ptr_place dest) count

-- the edge of words behind those that `count` bits from a pointer on meet
abbrev pub far_edge : {R O : Type 0} {a b c d e f g : _} → BitPtr R O a b c d e f g → ℕ → ℕ
far_edge {a = own} ptr count = nat_abs (ptr_of ptr).word + words_met own.BITS (ptr_of ptr).bit count
