use Rattle.std.proofs.Common.{arith, rules}
use Rattle.bitvec_call.proofs.RunLemmas.{can_run_plain}
use Rattle.bitvec_call.proofs.sorted.test_spans_in.Goals as goal

pub returns-clause-can_run : goal.returns-clause-can_run
returns-clause-can_run g c done =
    can_run_plain g.R.BitRegister.BITS c.args.spans.now c.args.words (omega (arith, g.met.R.BitRegister.width_at_least_8)) (search rules) (search rules)
