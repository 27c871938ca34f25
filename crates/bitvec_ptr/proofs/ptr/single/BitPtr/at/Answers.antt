use Rattle.std.proofs.Common.{◌≡◌, ◌/◌, ◌<◌, ◌≤◌, to_z, pos, refl, ◌∙◌, arith}
use Rattle.std.specs.Int.{w64}
use Rattle.std.proofs.lemmas.Int.{ints}
use Rattle.std.proofs.lemmas.Nat.{mod_below}
use Rattle.bitvec_ptr.proofs.StepLemmas.{quotient_small}
use Rattle.bitvec_ptr.proofs.ptr.single.BitPtr.at.Goals as goal

pub overflow_cast-result : goal.overflow_cast-result
overflow_cast-result g c =
    let width = c.from-bits.ensures ∙ c.BITS.ensures in
    let wide : 8 ≤ c.from-bits.result = omega (arith, width, g.met.R.BitRegister.width_at_least_8) in
    let small = quotient_small c.args.place c.from-bits.result wide (omega arith) in
    omega (arith, ints, small)

pub overflow_cast-result-2 : goal.overflow_cast-result-2
overflow_cast-result-2 g c =
    let width = c.from-bits.ensures ∙ c.BITS.ensures in
    let some : 0 < c.from-bits.result = omega (arith, width, g.met.R.BitRegister.width_at_least_8) in
    omega (arith, mod_below c.args.place c.from-bits.result some)

pub invariant_of-result : goal.invariant_of-result
invariant_of-result g c =
    let width = c.from-bits.ensures ∙ c.BITS.ensures in
    let some : 0 < c.from-bits.result = omega (arith, width, g.met.R.BitRegister.width_at_least_8) in
    record { in_word = omega (arith, width, mod_below c.args.place c.from-bits.result some) }

pub returns : goal.returns
returns g c =
    let width = c.from-bits.ensures ∙ c.BITS.ensures in
    let wide : 8 ≤ c.from-bits.result = omega (arith, width, g.met.R.BitRegister.width_at_least_8) in
    let small = quotient_small c.args.place c.from-bits.result wide (omega arith) in
    let word : to_z w64 (c.args.place / c.from-bits.result) ≡ pos (c.args.place / c.from-bits.result) = omega (arith, ints, small) in
    rw (word, width) refl
