-- Numbers in ranges of the bits of a memory. `rises` is whether the positions of the order `at` rise with the index, and
-- `big` whether the part of the first word is the highest of the number, and not the lowest.
use Rattle.std.specs.Prelude.{ℕ, ◌%◌, Bool, List}
use Rattle.bitvec_slice.specs.Field.{field_number, field_list}
use Rattle.bitvec_call.specs.Range.{range_bits, RangeBecomes}

-- the number whose digits the bits of a range are
abbrev pub loaded_number : Bool → ℕ → Bool → (ℕ → ℕ) → ℕ → ℕ → List ℕ → ℕ
loaded_number big bits rises at start count words = field_number big bits rises (start % bits) (range_bits bits at start count words)

-- the bits of a range of which the lowest digits of a number are those, as many as it has bits
abbrev pub stored_bits : Bool → ℕ → Bool → ℕ → ℕ → ℕ → List Bool
stored_bits big bits rises start count number = field_list big bits rises (start % bits) count number

-- the bits of a range become the lowest digits of a number, and every other bit of the memory is as before
abbrev pub StoresNumber : Bool → ℕ → Bool → (ℕ → ℕ) → ℕ → ℕ → ℕ → List ℕ → List ℕ → Type 0
StoresNumber big bits rises at start count number old new = RangeBecomes bits at start count (stored_bits big bits rises start count number) old new
