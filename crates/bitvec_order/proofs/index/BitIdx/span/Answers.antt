use Rattle.std.proofs.Common.{rules}
use Rattle.bitvec_order.proofs.Steps.{tail_full, tail_within, tail_past, elements_full, elements_within, elements_past}
use Rattle.bitvec_order.proofs.index.BitIdx.span.Goals as goal

pub returns-then-over-eq0-clause-elements : goal.returns-then-over-eq0-clause-elements
returns-then-over-eq0-clause-elements g c = λ some.
    search (rules, elements_full c.args.self c.args.len g.R.BitRegister.BITS)

pub returns-then-over-eq0-clause-tail : goal.returns-then-over-eq0-clause-tail
returns-then-over-eq0-clause-tail g c = λ some.
    search (rules, tail_full c.args.self c.args.len g.R.BitRegister.BITS)

pub returns-then-over-width-clause-elements : goal.returns-then-over-width-clause-elements
returns-then-over-width-clause-elements g c = λ some.
    search (rules, elements_within c.args.self c.args.len g.R.BitRegister.BITS)

pub returns-then-over-width-clause-tail : goal.returns-then-over-width-clause-tail
returns-then-over-width-clause-tail g c = λ some.
    search (rules, tail_within c.args.self c.args.len g.R.BitRegister.BITS)

pub returns-else-over-width-clause-elements : goal.returns-else-over-width-clause-elements
returns-else-over-width-clause-elements g c = λ some.
    search (rules, elements_past c.args.self c.args.len g.R.BitRegister.BITS)

pub returns-else-over-width-clause-tail : goal.returns-else-over-width-clause-tail
returns-else-over-width-clause-tail g c = λ some.
    search (rules, tail_past c.args.self c.args.len g.R.BitRegister.BITS)
