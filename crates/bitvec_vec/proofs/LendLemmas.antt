-- A vector is known by its words and its length.
use Rattle.std.proofs.Common.{◌≡◌, ◌≤◌}
use Rattle.std.proofs.Math.Nat.{ℕ_set}
use Rattle.std.specs.Coded.{le_prop}
use Rattle.std.specs.Prelude.{vec_len}
use Rattle.std.specs.declared.vec.Vec.{Vec}
use Rattle.bitvec.specs.Place.{region_max_bits}
use Rattle.bitvec_vec.specs.Front.{words_for}
use Rattle.bitvec_vec.specs.declared.vec.bit_vec.BitVec.{BitVec}

pub same-vec : {R O A : Type 0} {a b c d e f g h i : _} (vec : BitVec R O A a b c d e f g h i) (words : Vec R A) (s t : vec.len ≤ region_max_bits)
    (p q : vec_len words ≡ words_for a.BITS vec.len)
    → ◌≡◌ {A = BitVec R O A a b c d e f g h i} (record { words = words; len = vec.len; of = vec.of; short = s; enough = p })
    (record { words = words; len = vec.len; of = vec.of; short = t; enough = q })
same-vec {a = own} vec words s t p q =
    λ x. record { words = words; len = vec.len; of = vec.of; short = le_prop s t x; enough = ℕ_set (vec_len words) (words_for own.BITS vec.len) p q x }
