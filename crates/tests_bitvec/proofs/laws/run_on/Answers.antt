use Rattle.bitvec.specs.BitSpan.{span_of}
use Rattle.bitvec.proofs.AppendedRuns.{run-more}
use Rattle.tests_bitvec.proofs.laws.run_on.Goals as goal

pub returns : goal.returns
returns g c = run-more _ _ _ span_of c.args.spans.now _ _ _ _ _ _ _ c.run.ensures c.run-2.ensures
