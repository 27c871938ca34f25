use Rattle.std.proofs.Common.{◌≡◌, ℕ, map, sym, ◌∙◌, arith}
use Rattle.bitvec_call.specs.Status.{ok}
use Rattle.bitvec_call.specs.Stream.{bits_between, ReadsSigned}
use Rattle.bitvec_call.proofs.OrderLemmas.{first_order, last_order}
use Rattle.bitvec_call.proofs.StreamLemmas.{under_code}
use Rattle.bitvec_call.proofs.read.read_signed.Goals as goal

pub returns-then-order-eq-LSB0 : goal.returns-then-order-eq-LSB0
returns-then-order-eq-LSB0 g c =
    let width = g.R.BitRegister.BITS in
    let number = g.R.BitRegister.number in
    let is = first_order g.R.BitRegister.BITS c.args.order c.if-order-eq-LSB0.true in
    let fine : c.test_left-status.result ≡ ok = omega (arith, c.if-status-ne-OK.false) in
    under_code
    (λ (status : ℕ) (at : ℕ → ℕ). ReadsSigned c.args.big status (bits_between width at c.args.place.now c.args.end (map number c.args.memory.now)) c.args.place.now c.read_signed_in.new.place c.args.count c.args.number.now c.read_signed_in.new.number c.read_signed_in.result)
    _ width c.args.order _ (sym c.test_left-status.ensures.status ∙ fine) is c.read_signed_in.ensures

pub returns-else-order-eq-LSB0 : goal.returns-else-order-eq-LSB0
returns-else-order-eq-LSB0 g c =
    let width = g.R.BitRegister.BITS in
    let number = g.R.BitRegister.number in
    let is = last_order g.R.BitRegister.BITS g.R.BitRegister.MASK c.args.order c.if-order-eq-LSB0.false g.met.R.BitRegister.mask_is_greatest_index in
    let fine : c.test_left-status.result ≡ ok = omega (arith, c.if-status-ne-OK.false) in
    under_code
    (λ (status : ℕ) (at : ℕ → ℕ). ReadsSigned c.args.big status (bits_between width at c.args.place.now c.args.end (map number c.args.memory.now)) c.args.place.now c.read_signed_in-else-order-eq-LSB0.new.place c.args.count c.args.number.now c.read_signed_in-else-order-eq-LSB0.new.number c.read_signed_in-else-order-eq-LSB0.result)
    _ width c.args.order _ (sym c.test_left-status.ensures.status ∙ fine) is c.read_signed_in-else-order-eq-LSB0.ensures
