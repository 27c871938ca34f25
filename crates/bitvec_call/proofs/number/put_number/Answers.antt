use Rattle.std.proofs.lemmas.Bool.{ne_eqb}
use Rattle.bitvec_call.proofs.OrderLemmas.{last_order}
use Rattle.bitvec_call.proofs.number.put_number.Goals as goal

pub returns-else-order-eq-LSB0 : goal.returns-else-order-eq-LSB0
returns-else-order-eq-LSB0 g c =
    let is = last_order g.R.BitRegister.BITS g.R.BitRegister.MASK c.args.order c.if-order-eq-LSB0.false g.met.R.BitRegister.mask_is_greatest_index in
    rw (is, ne_eqb c.args.order 0 c.if-order-eq-LSB0.false) c.store_in-else-order-eq-LSB0.ensures
