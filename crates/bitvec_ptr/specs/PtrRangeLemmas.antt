-- A pointer and itself bound an empty range.
use Rattle.std.specs.Prelude.{ℕ, ◌≤ℤ◌}
use Rattle.std.proofs.Common.{arith}
use Rattle.std.proofs.lemmas.Int.{ints}
use Rattle.bitvec_ptr.specs.Place.{Ptr, place_of, greatest_isize}
use Rattle.bitvec_ptr.specs.Steps.{distance}

pub ordered-itself : (bits : ℕ) (ptr : Ptr) → place_of bits ptr ≤ℤ place_of bits ptr
ordered-itself bits ptr = omega (arith, ints)

pub near-itself : (bits : ℕ) (ptr : Ptr) → distance bits ptr ptr ≤ℤ greatest_isize
near-itself bits ptr = omega (arith, ints)
