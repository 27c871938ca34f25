use Rattle.std.proofs.Common.{arith, sym, subst, ℕ, refl}
use Rattle.std.proofs.lemmas.List.{length-map}
use Rattle.std.proofs.lemmas.Option.{slice_get_read}
use Rattle.bitvec_span.specs.BitSpan.{span_of}
use Rattle.bitvec.specs.Run.{CanRun}
use Rattle.bitvec.proofs.RequestLemmas.{run-one, run-no_span}
use Rattle.bitvec.proofs.run.serve.Goals as goal

pub returns-then-request-spans : goal.returns-then-request-spans
returns-then-request-spans g c =
    let spans = c.args.spans.now in
    let named = c.index-spans-request.result in
    let can =
    subst (λ (n : ℕ). CanRun g.R.BitRegister.BITS span_of spans n)
    (sym (length-map c.args.memory.now g.R.BitRegister.number)) c.requires in
    run-one _ _ _ span_of spans _ _ _ _ can
    (record {
      named = named;
      is_named = slice_get_read spans _ c.args.request.span named refl
          (omega arith) c.index-spans-request.is;
      step = c.step.ensures;
    })

pub returns-else-request-spans : goal.returns-else-request-spans
returns-else-request-spans g c =
    run-no_span _ _ _ span_of c.args.spans.now _ _ (omega arith)
