use Rattle.std.proofs.Common.{◌≡◌, ◌∙◌, ◌≤◌, ◌*◌, ap, mul-le-mul, arith}
use Rattle.std.specs.Prelude.{nat_abs}
use Rattle.std.specs.Int.{w64}
use Rattle.std.proofs.lemmas.Int.{ints}
use mir.Val.{to_z, of_z}
use Rattle.bitvec.proofs.run.start.Goals as goal

pub overflow_mul-result : goal.overflow_mul-result
overflow_mul-result g c =
    let far : c.unsigned_abs.result ≤ 9223372036854775808 = omega (arith, c.unsigned_abs.ensures.bound) in
    let wide : c.from.result ≤ 128 = omega (arith, g.met.R.BitRegister.width_at_most_128) in
    let product : c.unsigned_abs.result * c.from.result ≤ 9223372036854775808 * 128 = mul-le-mul far wide in
    omega arith

pub overflow_add-result : goal.overflow_add-result
overflow_add-result g c =
    let far : c.unsigned_abs.result ≤ 9223372036854775808 = omega (arith, c.unsigned_abs.ensures.bound) in
    let wide : c.from.result ≤ 128 = omega (arith, g.met.R.BitRegister.width_at_most_128) in
    let product : c.unsigned_abs.result * c.from.result ≤ 9223372036854775808 * 128 = mul-le-mul far wide in
    let inside : c.from-2.result ≤ 255 = omega arith in
    omega arith

pub returns : goal.returns
returns g c =
    let same : to_z w64 (of_z w64 c.address.result) ≡ c.args.span.word = omega (arith, ints) in
    let word = c.unsigned_abs.ensures.value ∙ ap nat_abs same in
    let width = c.from.ensures ∙ c.BITS.ensures in
    let head = c.from-2.ensures ∙ c.into_inner-head.ensures.value ∙ c.head.ensures in
    cc
