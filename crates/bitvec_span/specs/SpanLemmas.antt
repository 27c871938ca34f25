-- The span of no bits ends in the first word.
use Rattle.std.specs.Prelude.{ℕ, zero, suc, pos, ◌+ℤ◌, ◌≤ℤ◌}
use Rattle.std.specs.Int.{int_div_euclid}
use Rattle.std.proofs.Common.{arith}
use Rattle.std.proofs.lemmas.Int.{ints}
use Rattle.bitvec_ptr.specs.Place.{place_at, greatest_isize}

pub empty-low : (bits : ℕ) → int_div_euclid (place_at bits (pos 0) 0 +ℤ pos 0) (pos bits) ≤ℤ greatest_isize
empty-low zero = omega (arith, ints)
empty-low (suc n) = omega (arith, ints)
