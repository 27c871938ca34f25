use Rattle.bitvec_slice.proofs.FreeRunLemmas.{brought_rising, brought_falling}
use Rattle.bitvec_slice.proofs.slice.free_runs.brought_back.Goals as goal

pub returns-then-rises-clause-digits : goal.returns-then-rises-clause-digits
returns-then-rises-clause-digits g c = brought_rising g.R.BitRegister.BITS c.args.rises (g.R.BitRegister.number c.args.word) (g.R.BitRegister.number c.shr.result) c.args.n c.if-rises.true c.shr.ensures.moved c.shr.ensures.high

pub returns-else-rises-clause-digits : goal.returns-else-rises-clause-digits
returns-else-rises-clause-digits g c = brought_falling g.R.BitRegister.BITS c.args.rises (g.R.BitRegister.number c.args.word) (g.R.BitRegister.number c.shl.result) c.args.n c.if-rises.false c.shl.ensures.low c.shl.ensures.moved
