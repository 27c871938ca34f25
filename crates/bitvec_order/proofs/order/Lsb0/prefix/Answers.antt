use Rattle.std.proofs.Common.{ap, ◌∙◌, arith}
use Rattle.std.proofs.lemmas.Nat.{pow_pos}
use Rattle.bitvec_order.specs.OrderLemmas.{low_one_to_one}
use Rattle.bitvec_order.proofs.Prefixes.{whole_prefix, low_prefix, mask_from_value}
use Rattle.bitvec_order.proofs.order.Lsb0.prefix.Goals as goal

pub returns-then-count-BITS-clause-value : goal.returns-then-count-BITS-clause-value
returns-then-count-BITS-clause-value g c =
    let width = g.R.BitRegister.BITS in
    whole_prefix width (λ i. i) c.args.upto c.ALL.result (low_one_to_one width) (omega (arith, c.ALL.ensures, pow_pos width)) c.ALL.ensures
    (omega (arith, c.into_inner-count.ensures.value, c.BITS.ensures, c.if-count-BITS.true))

pub returns-then-count-BITS-clause-set : goal.returns-then-count-BITS-clause-set
returns-then-count-BITS-clause-set g c =
    mask_from_value g.R.BitRegister.BITS (λ i. i) 0 c.args.upto c.ALL.result (low_one_to_one g.R.BitRegister.BITS) c.into_inner-count.ensures.below
    (returns-then-count-BITS-clause-value g c)

pub returns-clause-value : goal.returns-clause-value
returns-clause-value g c =
    let R = g.R.BitRegister in
    c.new.ensures
    ∙ low_prefix {width = R.BITS} {count = c.into_inner-count.result} {all = R.number c.ALL-2.result} {s = R.number c.shl.result} {t = R.number c.not.result}
    (record {
      ones = ap R.number c.ALL-2.ensures ∙ g.met.R.BitRegister.all_is_greatest;
      low = c.shl.ensures.low;
      moved = c.shl.ensures.moved;
      turned = c.not.ensures.digits;
      below = c.not.ensures.below;
    })
    c.args.upto c.into_inner-count.ensures.value c.into_inner-count.ensures.below

pub returns-clause-set : goal.returns-clause-set
returns-clause-set g c =
    mask_from_value g.R.BitRegister.BITS (λ i. i) 0 c.args.upto c.new.result (low_one_to_one g.R.BitRegister.BITS) c.into_inner-count.ensures.below (returns-clause-value g c)
