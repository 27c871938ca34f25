use Rattle.std.proofs.Common.{◌≡◌, ℕ, ◌<◌, ◌++◌, ◌∷◌, [], not, length, replicate, map, sym, ◌∙◌, arith}
use Rattle.bitvec_call.specs.Stream.{bits_between, WritesBits}
use Rattle.bitvec_call.specs.Status.{ok, too_few}
use Rattle.bitvec_call.proofs.OrderLemmas.{first_order, last_order}
use Rattle.bitvec_call.proofs.StreamLemmas.{under_code}
use Rattle.bitvec_call.proofs.write_code.write_unary.Goals as goal

pub returns-then-order-eq-LSB0 : goal.returns-then-order-eq-LSB0
returns-then-order-eq-LSB0 g c =
    let width = g.R.BitRegister.BITS in
    let number = g.R.BitRegister.number in
    let old = map number c.args.memory.now in
    let is = first_order width c.args.order c.if-order-eq-LSB0.true in
    let fine : c.test_left-status.result ≡ ok = omega (arith, c.if-status-ne-OK.false) in
    under_code
    (λ (status : ℕ) (at : ℕ → ℕ). WritesBits ((c.args.count < length (bits_between width at c.args.place.now c.args.end old), too_few) ∷ []) (replicate c.args.count c.args.bit ++ not c.args.bit ∷ []) status width at c.args.place.now c.write_unary_in.new.place old (map number c.write_unary_in.new.memory) c.write_unary_in.result)
    _ width c.args.order _ (sym c.test_left-status.ensures.status ∙ fine) is c.write_unary_in.ensures

pub returns-else-order-eq-LSB0 : goal.returns-else-order-eq-LSB0
returns-else-order-eq-LSB0 g c =
    let width = g.R.BitRegister.BITS in
    let number = g.R.BitRegister.number in
    let old = map number c.args.memory.now in
    let is = last_order width g.R.BitRegister.MASK c.args.order c.if-order-eq-LSB0.false g.met.R.BitRegister.mask_is_greatest_index in
    let fine : c.test_left-status.result ≡ ok = omega (arith, c.if-status-ne-OK.false) in
    under_code
    (λ (status : ℕ) (at : ℕ → ℕ). WritesBits ((c.args.count < length (bits_between width at c.args.place.now c.args.end old), too_few) ∷ []) (replicate c.args.count c.args.bit ++ not c.args.bit ∷ []) status width at c.args.place.now c.write_unary_in-else-order-eq-LSB0.new.place old (map number c.write_unary_in-else-order-eq-LSB0.new.memory) c.write_unary_in-else-order-eq-LSB0.result)
    _ width c.args.order _ (sym c.test_left-status.ensures.status ∙ fine) is c.write_unary_in-else-order-eq-LSB0.ensures
