use Rattle.std.proofs.Common.{◌≡◌, ◌-◌, arith}
use Rattle.bitvec_order.specs.OrderLemmas.{high_one_to_one}
use Rattle.bitvec_order.proofs.Prefixes.{high_prefix, mask_from_value}
use Rattle.bitvec_order.proofs.order.Msb0.prefix.Goals as goal

pub returns-clause-value : goal.returns-clause-value
returns-clause-value g c =
    let law = g.met.R.BitRegister in
    let others : c.new_unchecked-others.result ≡ g.R.BitRegister.BITS - c.args.upto = omega (arith, c.new_unchecked-others.ensures, c.BITS.ensures, c.into_inner.ensures.value) in
    high_prefix {width = g.R.BitRegister.BITS} {others = c.new_unchecked-others.result} {s = c.prefix.result} {t = c.not.result}
    (record { lowest = c.prefix.ensures.set; turned = c.not.ensures.digits; below = c.not.ensures.below })
    g.R.BitRegister.MASK c.args.upto law.width_at_least_8 law.mask_is_greatest_index c.into_inner.ensures.below others

pub returns-clause-set : goal.returns-clause-set
returns-clause-set g c =
    let law = g.met.R.BitRegister in
    mask_from_value g.R.BitRegister.BITS (λ i. g.R.BitRegister.MASK - i) 0 c.args.upto c.not.result (high_one_to_one g.R.BitRegister.BITS g.R.BitRegister.MASK law.width_at_least_8 law.mask_is_greatest_index)
    c.into_inner.ensures.below (returns-clause-value g c)
