use Rattle.std.proofs.Common.{◌∙◌, ap}
use Rattle.std.specs.Prelude.{pos, ◌+ℤ◌}
use Rattle.std.specs.Int.{w64, int_wrap, int_div_euclid, int_rem_euclid}
use Rattle.bitvec_order.proofs.Steps.{quotient_of_far, rest_of_far}
use Rattle.bitvec_order.proofs.index.BitIdx.offset.Goals as goal

pub returns-clause-carried : goal.returns-clause-carried
returns-clause-carried g c =
    quotient_of_far c.self.inside.idx g.R.BitRegister.BITS c.args.by c.from-width.result c.self.invariant g.met.R.BitRegister.width_at_most_128 c.ranges.by
    (c.from-width.ensures ∙ ap pos c.BITS.ensures) c.div_euclid-carried.result (record { sfits = c.div_euclid-carried.type_inv }) c.div_euclid-carried.ensures
    ∙ ap (λ n. int_div_euclid (int_wrap w64 (pos n +ℤ c.args.by)) (pos g.R.BitRegister.BITS)) c.self.view_is

pub returns-clause-index : goal.returns-clause-index
returns-clause-index g c =
    rest_of_far c.self.inside.idx g.R.BitRegister.BITS c.args.by c.from-width.result c.self.invariant g.met.R.BitRegister.width_at_most_128 c.ranges.by
    (c.from-width.ensures ∙ ap pos c.BITS.ensures) c.rem_euclid-index.result c.new_unchecked.result (record { sfits = c.rem_euclid-index.type_inv }) c.rem_euclid-index.ensures.value c.new_unchecked.ensures
    ∙ ap (λ n. int_rem_euclid (int_wrap w64 (pos n +ℤ c.args.by)) (pos g.R.BitRegister.BITS)) c.self.view_is
