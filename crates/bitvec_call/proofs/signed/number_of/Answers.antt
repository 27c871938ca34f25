use Rattle.std.proofs.Common.{to_z-of_z, FitsSigned, ◌∙◌, rules}
use Rattle.std.proofs.lemmas.Bool.{ne_eqb}
use Rattle.std.specs.Int.{w64}
use Rattle.std.proofs.Common.{eq-eqb}
use Rattle.bitvec_call.proofs.OrderLemmas.{first_order, last_order}
use Rattle.bitvec_call.proofs.signed.number_of.Goals as goal

pub returns-then-order-eq-LSB0 : goal.returns-then-order-eq-LSB0
returns-then-order-eq-LSB0 g c =
    let is = first_order g.R.BitRegister.BITS c.args.order c.if-order-eq-LSB0.true in
    let fits : FitsSigned w64 c.load_in.result = search rules in
    rw (is, eq-eqb c.args.order 0 c.if-order-eq-LSB0.true) (to_z-of_z {w = w64} {z = c.load_in.result} fits ∙ c.load_in.ensures)

pub returns-else-order-eq-LSB0 : goal.returns-else-order-eq-LSB0
returns-else-order-eq-LSB0 g c =
    let is = last_order g.R.BitRegister.BITS g.R.BitRegister.MASK c.args.order c.if-order-eq-LSB0.false g.met.R.BitRegister.mask_is_greatest_index in
    let fits : FitsSigned w64 c.load_in-else-order-eq-LSB0.result = search rules in
    rw (is, ne_eqb c.args.order 0 c.if-order-eq-LSB0.false) (to_z-of_z {w = w64} {z = c.load_in-else-order-eq-LSB0.result} fits ∙ c.load_in-else-order-eq-LSB0.ensures)
