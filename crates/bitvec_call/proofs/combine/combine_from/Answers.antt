use Rattle.bitvec_call.proofs.OrderLemmas.{first_order, last_order}
use Rattle.bitvec_call.proofs.combine.combine_from.Goals as goal

pub returns-then-source_order-eq-LSB0 : goal.returns-then-source_order-eq-LSB0
returns-then-source_order-eq-LSB0 g c =
    let is = first_order g.R2.BitRegister.BITS c.args.source_order c.if-source_order-eq-LSB0.true in
    rw is c.combine_in.ensures

pub returns-else-source_order-eq-LSB0 : goal.returns-else-source_order-eq-LSB0
returns-else-source_order-eq-LSB0 g c =
    let is = last_order g.R2.BitRegister.BITS g.R2.BitRegister.MASK c.args.source_order c.if-source_order-eq-LSB0.false g.met.R2.BitRegister.mask_is_greatest_index in
    rw is c.combine_in-else-source_order-eq-LSB0.ensures
