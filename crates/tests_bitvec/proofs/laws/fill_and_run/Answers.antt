use Rattle.std.proofs.Common.{◌≡◌, ℕ, ◌++◌, map, length, replicate, Some, ap, subst, sym, ◌∙◌, true, arith}
use Rattle.std.proofs.lemmas.List.{length-map}
use Rattle.std.proofs.lemmas.Option.{get_or_from_slice_get}
use Rattle.bitvec.specs.BitSpan.{span_of}
use Rattle.bitvec.specs.Span.{list_of, with_filled}
use Rattle.bitvec.specs.Run.{CanRun}
use Rattle.bitvec.specs.declared.run.command.Command.TheVariants.{Fill}
use Rattle.bitvec.specs.declared.run.command.Reply.TheVariants.{Done}
use Rattle.bitvec.proofs.AppendedRuns.{run-more}
use Rattle.bitvec.proofs.BecomesLemmas.{becomes-same}
use Rattle.bitvec.proofs.CommandLemmas.{step-fill}
use Rattle.bitvec.proofs.RequestLemmas.{run-one}
use Rattle.bitvec.proofs.PartLemmas.{length-list_of}
use Rattle.tests_bitvec.proofs.SameRunLemmas.{filled_whole}
use Rattle.tests_bitvec.proofs.laws.fill_and_run.Goals as goal

pub returns : goal.returns
returns g c = λ span is.
    let number = g.R.BitRegister.number in
    let bits = g.R.BitRegister.BITS in
    let at = g.O.BitAt.at_of in
    let spans = c.args.spans.now in
    let old = map number c.args.memory.now in
    let mid = map number c.fill.new.memory in
    let named = c.index-spans-0.result in
    let same : named ≡ span = c.index-spans-0.is ∙ get_or_from_slice_get spans 0 span named is in
    let can = subst (λ (n : ℕ). CanRun bits span_of spans n) (sym (length-map c.args.memory.now number)) c.requires.can_run in
    let xs = list_of bits at (span_of named) old in
    let edit = becomes-same bits at (span_of named) old mid _ (with_filled xs 0 named.len true) (sym (filled_whole xs named.len true (length-list_of bits at (span_of named) old))) c.fill.ensures in
    rw (← same)
    (run-more number bits at span_of spans old mid _ _ c.args.requests.now _ _
    (run-one number bits at span_of spans old mid
    (record { span = 0; command = Fill 0 named.len true }) Done can (record {
      named = named;
      is_named = is ∙ ap (λ s. Some s) (sym same);
      step = step-fill number bits at (span_of named) old mid 0 named.len true
          (omega arith) (omega arith) edit;
    }))
    c.run.ensures)
