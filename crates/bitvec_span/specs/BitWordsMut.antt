-- What a `BitWordsMut` shows.
use Rattle.std.specs.Prelude.{ℕ, ◌+◌, ◌*◌, Bool, List, map}
use Rattle.std.specs.Borrow.{MutBor}
use Rattle.bitvec_span.specs.declared.domain.bit_words_mut.BitWordsMut.{BitWordsMut}
use Rattle.bitvec_ptr.specs.Memory.{memory_bits}
use Rattle.bitvec_span.specs.Stretch.{Stretch}

-- the memory that it borrows
abbrev pub words_memory : {R O : Type 0} {a b c d e f g : _} → BitWordsMut R O a b c d e f g → MutBor (List R)
words_memory bits = bits.memory

-- the numbers of the memory's words
abbrev pub memory_numbers : {R O : Type 0} {a b c d e f g : _} → (R → ℕ) → BitWordsMut R O a b c d e f g → List ℕ
memory_numbers number bits = map number (words_memory bits).now

-- all bits of that memory, by the positions of an order
abbrev pub all_bits : {R O : Type 0} {a b c d e f g : _} → BitWordsMut R O a b c d e f g → (ℕ → ℕ) → List Bool
all_bits {a = own} bits at = memory_bits own.BITS at (memory_numbers own.number bits)

-- where its bits lie in that memory
abbrev pub stretch_in : {R O : Type 0} {a b c d e f g : _} → BitWordsMut R O a b c d e f g → Stretch
stretch_in bits = record { first = bits.first; count = bits.count; head = bits.head; len = bits.len }

-- the number of its bit i among the bits of that memory
abbrev pub bit_number : {R O : Type 0} {a b c d e f g : _} → ℕ → BitWordsMut R O a b c d e f g → ℕ → ℕ
bit_number width bits i = bits.first * width + (bits.head + i)
