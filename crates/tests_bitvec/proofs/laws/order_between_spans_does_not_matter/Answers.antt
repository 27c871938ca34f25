use Rattle.tests_bitvec.proofs.SameRunLemmas.{same_runs}
use Rattle.tests_bitvec.proofs.laws.order_between_spans_does_not_matter.Goals as goal

pub returns : goal.returns
returns g c = same_runs g.R.BitRegister.number g.R.BitRegister.BITS g.O.BitAt.at_of g.met.O.BitOrder.one_to_one
