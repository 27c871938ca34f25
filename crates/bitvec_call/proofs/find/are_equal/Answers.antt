use Rattle.std.proofs.Common.{sym, ◌∙◌}
use Rattle.bitvec_call.proofs.OrderLemmas.{last_order}
use Rattle.bitvec_call.proofs.find.are_equal.Goals as goal

pub returns-else-order-eq-LSB0 : goal.returns-else-order-eq-LSB0
returns-else-order-eq-LSB0 g c =
    let is = last_order g.R.BitRegister.BITS g.R.BitRegister.MASK c.args.order c.if-order-eq-LSB0.false g.met.R.BitRegister.mask_is_greatest_index in
    let here = c.bits-else-order-eq-LSB0.ensures.bits in
    let there = c.bits-else-order-eq-LSB0-2.ensures.bits in
    let both = c.equals-else-order-eq-LSB0.ensures.list in
    rw is (λ yes. sym here ∙ both.0 yes ∙ there, λ same. both.1 (here ∙ same ∙ sym there))
