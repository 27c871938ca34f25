use Rattle.bitvec_call.proofs.OrderLemmas.{first_order, last_order}
use Rattle.bitvec_call.proofs.question.first_from.Goals as goal

pub returns-then-other_order-eq-LSB0 : goal.returns-then-other_order-eq-LSB0
returns-then-other_order-eq-LSB0 g c =
    let is = first_order g.R2.BitRegister.BITS c.args.other_order c.if-other_order-eq-LSB0.true in
    rw is c.first_in.ensures

pub returns-else-other_order-eq-LSB0 : goal.returns-else-other_order-eq-LSB0
returns-else-other_order-eq-LSB0 g c =
    let is = last_order g.R2.BitRegister.BITS g.R2.BitRegister.MASK c.args.other_order c.if-other_order-eq-LSB0.false g.met.R2.BitRegister.mask_is_greatest_index in
    rw is c.first_in-else-other_order-eq-LSB0.ensures
