use Rattle.std.proofs.Common.{◌≡◌, ◌-◌, ◌^◌, ap, ◌∙◌, bit_and, rules}
use Rattle.bitvec.specs.Digit.{digit}
use Rattle.bitvec_slice.proofs.FieldStoreLemmas.{masked}
use Rattle.bitvec_slice.proofs.field.low_digits.Goals as goal

pub returns-clause-digits : goal.returns-clause-digits
returns-clause-digits g c =
    let width = g.R.BitRegister.BITS in
    let is : g.R.BitRegister.number c.unwrap.result ≡ bit_and c.to_u128.result c.to_u128-2.result = search rules in
    let mask : c.to_u128-2.result ≡ 2 ^ width - 1 = c.to_u128-2.ensures.number ∙ ap g.R.BitRegister.number c.ALL.ensures ∙ g.met.R.BitRegister.all_is_greatest in
    λ p h. ap (λ n. digit n p) is ∙ masked width c.to_u128.result c.to_u128-2.result p mask h ∙ ap (λ n. digit n p) c.to_u128.ensures.number
