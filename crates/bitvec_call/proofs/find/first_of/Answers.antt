use Rattle.std.proofs.Common.{Bool, false, List, subst}
use Rattle.bitvec_slice.specs.Bits.{BeginsWith}
use Rattle.bitvec_call.proofs.OrderLemmas.{last_order}
use Rattle.bitvec_call.proofs.find.first_of.Goals as goal

pub returns-else-order-eq-LSB0 : goal.returns-else-order-eq-LSB0
returns-else-order-eq-LSB0 g c =
    let is = last_order g.R.BitRegister.BITS g.R.BitRegister.MASK c.args.order c.if-order-eq-LSB0.false g.met.R.BitRegister.mask_is_greatest_index in
    rw is (subst (λ (xs : List Bool). BeginsWith false xs c.leading_zeros-else-order-eq-LSB0.result) c.bits-else-order-eq-LSB0.ensures.bits c.leading_zeros-else-order-eq-LSB0.ensures)
