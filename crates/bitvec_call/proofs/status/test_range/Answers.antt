use Rattle.std.proofs.Common.{rules, ◌+◌, ◌*◌, IsTrue, le-ltb, refl}
use Rattle.bitvec.specs.Place.{region_max_bits}
use Rattle.bitvec_call.proofs.status.test_range.Goals as goal

pub returns-else-not-is_inside-clause-inside : goal.returns-else-not-is_inside-clause-inside
returns-else-not-is_inside-clause-inside g c done =
    let yes : IsTrue c.is_inside.result = search rules in
    c.is_inside.ensures.0 yes

pub returns-else-not-is_inside-clause-status : goal.returns-else-not-is_inside-clause-status
returns-else-not-is_inside-clause-status g c =
    let yes : IsTrue c.is_inside.result = search rules in
    let order = le-ltb 1 c.args.order c.if-order-gt-MSB0.false in
    let short = le-ltb region_max_bits c.args.count c.if-count-gt-MAX_BITS.false in
    rw (order, short, le-ltb (c.args.words * g.R.BitRegister.BITS) (c.args.start + c.args.count) (c.is_inside.ensures.0 yes)) refl
