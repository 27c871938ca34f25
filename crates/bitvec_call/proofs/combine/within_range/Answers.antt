use Rattle.bitvec_call.proofs.OrderLemmas.{last_order}
use Rattle.bitvec_call.proofs.combine.within_range.Goals as goal

pub returns-else-order-eq-LSB0 : goal.returns-else-order-eq-LSB0
returns-else-order-eq-LSB0 g c =
    let is = last_order g.R.BitRegister.BITS g.R.BitRegister.MASK c.args.order c.if-order-eq-LSB0.false g.met.R.BitRegister.mask_is_greatest_index in
    rw is c.within_in-else-order-eq-LSB0.ensures
