use Rattle.std.proofs.Common.{ap, ◌∙◌}
use Rattle.bitvec.specs.Truths.{ones_in}
use Rattle.bitvec_call.proofs.OrderLemmas.{first_order, last_order}
use Rattle.bitvec_call.proofs.find.ones_of.Goals as goal

pub returns-then-order-eq-LSB0 : goal.returns-then-order-eq-LSB0
returns-then-order-eq-LSB0 g c =
    let is = first_order g.R.BitRegister.BITS c.args.order c.if-order-eq-LSB0.true in
    rw is (c.count_ones.ensures ∙ ap ones_in c.bits.ensures.bits)

pub returns-else-order-eq-LSB0 : goal.returns-else-order-eq-LSB0
returns-else-order-eq-LSB0 g c =
    let is = last_order g.R.BitRegister.BITS g.R.BitRegister.MASK c.args.order c.if-order-eq-LSB0.false g.met.R.BitRegister.mask_is_greatest_index in
    rw is (c.count_ones-else-order-eq-LSB0.ensures ∙ ap ones_in c.bits-else-order-eq-LSB0.ensures.bits)
