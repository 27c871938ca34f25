-- Ranges by the place of their first bit.
use Rattle.std.proofs.Common.{◌≡◌, ℕ, ◌+◌, ◌*◌, ◌/◌, ◌%◌, pos, arith}
use Rattle.std.proofs.lemmas.Int.{ints}
use Rattle.std.proofs.lemmas.Nat.{div-add-mod'}
use Rattle.bitvec.specs.Place.{place_at}

pub place_of_start : (bits start : ℕ) → place_at bits (pos (start / bits)) (start % bits) ≡ pos start
place_of_start bits start = omega (arith, ints, div-add-mod' start bits)

pub number_of_start : (bits start : ℕ) → start / bits * bits + start % bits ≡ start
number_of_start bits start = omega (arith, div-add-mod' start bits)
