-- An array is known by its words.
use Rattle.std.proofs.Common.{◌≡◌, ℕ, List}
use Rattle.std.proofs.Math.Nat.{ℕ_set}
use Rattle.bitvec_array.specs.declared.array.bit_array.BitArray.{BitArray}

pub same-words : {O : Type 0} {n : ℕ} {a b : _} (array : BitArray O n a b) (words : List ℕ) (p q : b.at_of 0 ≡ b.at_of 0)
    → ◌≡◌ {A = BitArray O n a b} (record { words = words; of = array.of; positions = p }) (record { words = words; of = array.of; positions = q })
same-words {b = order} array words p q = λ i. record { words = words; of = array.of; positions = ℕ_set (order.at_of 0) (order.at_of 0) p q i }

pub same-array : {O : Type 0} {n : ℕ} {a b : _} (array : BitArray O n a b) (p : b.at_of 0 ≡ b.at_of 0)
    → ◌≡◌ {A = BitArray O n a b} (record { words = array.words; of = record {}; positions = p }) array
same-array array p = same-words array array.words p array.positions
