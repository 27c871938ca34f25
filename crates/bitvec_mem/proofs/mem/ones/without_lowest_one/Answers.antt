use Rattle.std.proofs.Common.{◌≡◌, ◌+◌, ◌-◌, ◌%◌, ◌^◌, ◌<◌, sym, ap, ◌∙◌, subst, arith}
use Rattle.std.proofs.Math.Pow.{pow_mono}
use Rattle.std.proofs.lemmas.Nat.{and_le_l}
use Rattle.std.specs.Int.Bits.{bit_and}
use Rattle.bitvec_mem.specs.Ones.{IsWithoutLowestOne}
use Rattle.bitvec_mem.proofs.EndDigits.{without_lowest, made_of}
use Rattle.bitvec_mem.proofs.mem.ones.without_lowest_one.Goals as goal

pub returns-clause-digits : goal.returns-clause-digits
returns-clause-digits g c =
    let bits = g.R.BitRegister.BITS in
    let n = c.to_u128-number.result in
    let less = (n + (2 ^ 128 - 1)) % 2 ^ 128 in
    let fits : bit_and n less < 2 ^ bits = omega (arith, and_le_l n less, c.to_u128-number.ensures.number, c.to_u128-number.ensures.below) in
    let made : g.R.BitRegister.number c.unwrap_or.result ≡ bit_and n less =
    ap g.R.BitRegister.number c.unwrap_or.ensures
    ∙ made_of g.R.BitRegister.number c.from_u128.result c.ZERO.result (bit_and n less) (2 ^ bits) c.from_u128.ensures.refused.0 c.from_u128.ensures.made fits in
    subst (λ m. IsWithoutLowestOne bits (g.R.BitRegister.number c.args.word) m) (sym made)
    (subst (λ m. IsWithoutLowestOne bits m (bit_and n less)) c.to_u128-number.ensures.number
    (without_lowest bits n less (λ some. omega (arith, some, c.to_u128-number.ensures.number, c.to_u128-number.ensures.below, pow_mono g.met.R.BitRegister.width_at_most_128))))
