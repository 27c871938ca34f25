use Rattle.bitvec_call.proofs.OrderLemmas.{first_order, last_order}
use Rattle.bitvec_call.proofs.run.run_requests.Goals as goal

pub run_in-requires-clause-short : goal.run_in-requires-clause-short
run_in-requires-clause-short g c = c.requires.short

pub run_in-requires-clause-can_run : goal.run_in-requires-clause-can_run
run_in-requires-clause-can_run g c = c.requires.can_run

pub run_in-requires-clause-commands : goal.run_in-requires-clause-commands
run_in-requires-clause-commands g c = c.requires.commands

pub run_in-requires-else-order-eq-LSB0-clause-short : goal.run_in-requires-else-order-eq-LSB0-clause-short
run_in-requires-else-order-eq-LSB0-clause-short g c = c.requires.short

pub run_in-requires-else-order-eq-LSB0-clause-can_run : goal.run_in-requires-else-order-eq-LSB0-clause-can_run
run_in-requires-else-order-eq-LSB0-clause-can_run g c = c.requires.can_run

pub run_in-requires-else-order-eq-LSB0-clause-commands : goal.run_in-requires-else-order-eq-LSB0-clause-commands
run_in-requires-else-order-eq-LSB0-clause-commands g c = c.requires.commands

pub returns-then-order-eq-LSB0 : goal.returns-then-order-eq-LSB0
returns-then-order-eq-LSB0 g c =
    let is = first_order g.R.BitRegister.BITS c.args.order c.if-order-eq-LSB0.true in
    rw is c.run_in.ensures

pub returns-else-order-eq-LSB0 : goal.returns-else-order-eq-LSB0
returns-else-order-eq-LSB0 g c =
    let is = last_order g.R.BitRegister.BITS g.R.BitRegister.MASK c.args.order c.if-order-eq-LSB0.false g.met.R.BitRegister.mask_is_greatest_index in
    rw is c.run_in-else-order-eq-LSB0.ensures
