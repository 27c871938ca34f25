use Rattle.std.proofs.Common.{arith}
use Rattle.bitvec_slice.proofs.FieldLemmas.{met_bounds}
use Rattle.bitvec_slice.proofs.field.place.Goals as goal

pub overflow_cast-result : goal.overflow_cast-result
overflow_cast-result g c = omega (arith, c.len.ensures, c.requires.small, g.met.N.BitRegister.width_at_most_128)

pub returns-then-big-clause-below : goal.returns-then-big-clause-below
returns-then-big-clause-below g c = omega (arith, c.len.ensures, c.stretch-start.ensures.end, c.requires.small, c.args.span.in_word, g.met.R.BitRegister.width_at_least_8, g.met.N.BitRegister.width_at_least_8)

pub returns-else-big-clause-below : goal.returns-else-big-clause-below
returns-else-big-clause-below g c =
    let width = g.R.BitRegister.BITS in
    let span = c.args.span in
    let eight = g.met.R.BitRegister.width_at_least_8 in
    let bounds = met_bounds width span.head span.len c.args.k (omega (arith, eight)) (omega (arith, span.in_word, eight)) c.requires.met in
    omega (arith, c.stretch-start.ensures.start, bounds.3, c.requires.small)

pub overflow_cast-result-else-big : goal.overflow_cast-result-else-big
overflow_cast-result-else-big g c = let below = returns-else-big-clause-below g c in omega (arith, below, g.met.N.BitRegister.width_at_most_128)
