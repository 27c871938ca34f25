use Rattle.std.proofs.Common.{List, length, get_or, sym, subst, arith}
use Rattle.std.specs.Prelude.{All}
use Rattle.bitvec.specs.BitSpan.{span_of, empty_span}
use Rattle.bitvec.specs.Span.{Span}
use Rattle.bitvec.specs.Run.{CanRun}
use Rattle.bitvec.proofs.LawLemmas.{all_views}
use Rattle.bits_lib.specs.Interval.{IsSpan}
use Rattle.bits_lib.proofs.IntervalLemmas.{can_run_views}
use Rattle.bits_lib.proofs.view.Parts.new_unchecked.Goals as goal

pub invariant_of-result-clause-spans : goal.invariant_of-result-clause-spans
invariant_of-result-clause-spans g c =
    let width = g.R.BitRegister.BITS in
    let spans = c.args.spans in
    subst (λ (xs : List Span). All (IsSpan width) xs) (sym c.intervals_of-intervals.ensures)
    (all_views span_of (IsSpan width) spans (λ s d h. let x = get_or spans s d in (omega (arith, x.in_word, g.met.R.BitRegister.width_at_least_8), x.short, x.low)))

pub invariant_of-result-clause-can_run : goal.invariant_of-result-clause-can_run
invariant_of-result-clause-can_run g c =
    let width = g.R.BitRegister.BITS in
    subst (λ (xs : List Span). CanRun width (λ span. span) xs (length c.args.memory.now)) (sym c.intervals_of-intervals.ensures)
    (can_run_views width span_of c.args.spans empty_span (length c.args.memory.now) c.requires)
