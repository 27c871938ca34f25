use Rattle.std.proofs.Common.{ℕ, ◌<◌, arith}
use Rattle.bitvec.specs.Span.{Span}
use Rattle.bitvec.proofs.AppendedRuns.{run-more}
use Rattle.bitvec.proofs.CutLemmas.{run-cut}
use Rattle.tests_bitvec.proofs.laws.runs_join_and_are_cut.Goals as goal

pub returns-clause-join : goal.returns-clause-join
returns-clause-join g c = λ spans old mid new requests more replies others first rest.
    run-more g.R.BitRegister.number g.R.BitRegister.BITS g.O.BitAt.at_of (λ (span : Span). span) spans old mid new requests more replies others first rest

pub returns-clause-cut : goal.returns-clause-cut
returns-clause-cut g c = λ spans old new requests more replies others can long run.
    let some : 0 < g.R.BitRegister.BITS = omega (arith, g.met.R.BitRegister.width_at_least_8) in
    run-cut g.R.BitRegister.number g.R.BitRegister.BITS g.O.BitAt.at_of (λ (span : Span). span) spans old new requests more replies others some
    g.met.O.BitOrder.one_to_one can long run
