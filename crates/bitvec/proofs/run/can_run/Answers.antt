use Rattle.std.proofs.Common.{◌<◌, length, rules}
use Rattle.bitvec_span.specs.BitSpan.{span_of}
use Rattle.bitvec_span.specs.Span.{AreDisjoint}
use Rattle.bitvec_span.proofs.DisjointLemmas.{disjoint-sym}
use Rattle.bitvec.proofs.LaterLemmas.{all_before}
use Rattle.bitvec.proofs.run.can_run.Goals as goal
use Rattle.bitvec.proofs.run.can_run.Goals.{then-all_fit, else-all_fit}

pub returns-else-is_apart : goal.returns-else-is_apart
returns-else-is_apart g c =
    let width = g.R.BitRegister.BITS in
    let spans = c.args.spans.now in
    let i = c.in-Some.i in
    let within : c.in-Some.i < length c.args.spans.now = search rules in (
      λ yes. cc,
      λ can. elim c.if-all_fit.branch [
        | then-all_fit w ↦ (
            let apart = w.is_apart.ensures.1
            (all_before (λ a b. AreDisjoint width (span_of a) (span_of b)) (λ a b. disjoint-sym width (span_of a) (span_of b)) spans i w.index-spans-i.result within w.index-spans-i.is can.1) in
            cc)
        | else-all_fit w ↦ (
            let fit = c.all_fit.ensures.1 can.0 in
            cc)
      ],
    )
