use Rattle.std.proofs.Common.{rules, ◌≡◌, ℕ, ◌≤◌, ◌∷◌, [], length, map, sym, subst, ◌∙◌, arith}
use Rattle.bitvec_stream.specs.Golomb.{golomb, signed_place}
use Rattle.bitvec_call.specs.Stream.{bits_between, WritesBits}
use Rattle.std.proofs.Common.{ℤ, to_z-of_z}
use Rattle.std.specs.Int.{w64}
use mir.Val.{to_z, of_z}
use Rattle.bitvec_call.specs.Status.{ok, too_few}
use Rattle.bitvec_call.proofs.OrderLemmas.{first_order, last_order}
use Rattle.bitvec_call.proofs.StreamLemmas.{under_code}
use Rattle.bitvec_call.proofs.write_code.write_signed_exp_golomb.Goals as goal

pub returns-then-order-eq-LSB0 : goal.returns-then-order-eq-LSB0
returns-then-order-eq-LSB0 g c =
    let width = g.R.BitRegister.BITS in
    let number = g.R.BitRegister.number in
    let old = map number c.args.memory.now in
    let same : to_z w64 (of_z w64 c.args.number) ≡ c.args.number = to_z-of_z {w = w64} {z = c.args.number} (search rules) in
    let is = first_order width c.args.order c.if-order-eq-LSB0.true in
    let fine : c.test_left-status.result ≡ ok = omega (arith, c.if-status-ne-OK.false) in
    under_code
    (λ (status : ℕ) (at : ℕ → ℕ). WritesBits ((length (golomb (signed_place c.args.number)) ≤ length (bits_between width at c.args.place.now c.args.end old), too_few) ∷ []) (golomb (signed_place c.args.number)) status width at c.args.place.now c.write_signed_exp_golomb_in.new.place old (map number c.write_signed_exp_golomb_in.new.memory) c.write_signed_exp_golomb_in.result)
    _ width c.args.order _ (sym c.test_left-status.ensures.status ∙ fine) is (subst (λ (z : ℤ). (λ (status : ℕ) (at : ℕ → ℕ). WritesBits ((length (golomb (signed_place z)) ≤ length (bits_between width at c.args.place.now c.args.end old), too_few) ∷ []) (golomb (signed_place z)) status width at c.args.place.now c.write_signed_exp_golomb_in.new.place old (map number c.write_signed_exp_golomb_in.new.memory) c.write_signed_exp_golomb_in.result) ok _) same c.write_signed_exp_golomb_in.ensures)

pub returns-else-order-eq-LSB0 : goal.returns-else-order-eq-LSB0
returns-else-order-eq-LSB0 g c =
    let width = g.R.BitRegister.BITS in
    let number = g.R.BitRegister.number in
    let old = map number c.args.memory.now in
    let same : to_z w64 (of_z w64 c.args.number) ≡ c.args.number = to_z-of_z {w = w64} {z = c.args.number} (search rules) in
    let is = last_order width g.R.BitRegister.MASK c.args.order c.if-order-eq-LSB0.false g.met.R.BitRegister.mask_is_greatest_index in
    let fine : c.test_left-status.result ≡ ok = omega (arith, c.if-status-ne-OK.false) in
    under_code
    (λ (status : ℕ) (at : ℕ → ℕ). WritesBits ((length (golomb (signed_place c.args.number)) ≤ length (bits_between width at c.args.place.now c.args.end old), too_few) ∷ []) (golomb (signed_place c.args.number)) status width at c.args.place.now c.write_signed_exp_golomb_in-else-order-eq-LSB0.new.place old (map number c.write_signed_exp_golomb_in-else-order-eq-LSB0.new.memory) c.write_signed_exp_golomb_in-else-order-eq-LSB0.result)
    _ width c.args.order _ (sym c.test_left-status.ensures.status ∙ fine) is (subst (λ (z : ℤ). (λ (status : ℕ) (at : ℕ → ℕ). WritesBits ((length (golomb (signed_place z)) ≤ length (bits_between width at c.args.place.now c.args.end old), too_few) ∷ []) (golomb (signed_place z)) status width at c.args.place.now c.write_signed_exp_golomb_in-else-order-eq-LSB0.new.place old (map number c.write_signed_exp_golomb_in-else-order-eq-LSB0.new.memory) c.write_signed_exp_golomb_in-else-order-eq-LSB0.result) ok _) same c.write_signed_exp_golomb_in-else-order-eq-LSB0.ensures)
