use Rattle.std.proofs.Common.{ℕ, [], ◌∷◌, get_or, length, map, sym, subst, arith}
use Rattle.std.proofs.lemmas.List.{length-map}
use Rattle.std.proofs.lemmas.Option.{slice_get-get_or}
use Rattle.bitvec.specs.BitSpan.{span_of}
use Rattle.bitvec.specs.Commands.{reply_number}
use Rattle.bitvec.specs.Run.{CanRun, IsRun, IsStep}
use Rattle.bitvec.specs.Span.{Span, Fits}
use Rattle.bitvec.specs.declared.run.command.Reply.{Reply}
use Rattle.bitvec.proofs.CommandLemmas.{step-same}
use Rattle.bitvec.proofs.RequestLemmas.{run-one, run-no_span}
use Rattle.bitvec_call.specs.Plain.{plain_span, plain_command, plain_request, reply_of}
use Rattle.bitvec_call.specs.declared.plain.PlainSpan.{PlainSpan}
use Rattle.bitvec_call.proofs.RunLemmas.{one_plain}
use Rattle.bitvec_call.proofs.run.serve.Goals as goal

pub span-own-requires : goal.span-own-requires
span-own-requires g c =
    let none : PlainSpan = record { start = 0; count = 0 } in
    c.requires.short c.args.request.now.span none (omega arith)

pub step-requires : goal.step-requires
step-requires g c =
    let none : PlainSpan = record { start = 0; count = 0 } in
    subst (λ (s : Span). Fits g.R.BitRegister.BITS s (length c.args.memory.now)) (sym c.span-own.ensures.span) (c.requires.can_run.0 c.args.request.now.span none (omega arith))

pub returns-then-request-spans : goal.returns-then-request-spans
returns-then-request-spans g c =
    let width = g.R.BitRegister.BITS in
    let number = g.R.BitRegister.number in
    let spans = c.args.spans.now in
    let request = c.args.request.now in
    let none : PlainSpan = record { start = 0; count = 0 } in
    let named = get_or spans request.span none in
    let old = map number c.args.memory.now in
    let new = map number c.step.new.memory in
    let can = subst (λ (n : ℕ). CanRun width (plain_span width) spans n) (sym (length-map c.args.memory.now number)) c.requires.can_run in
    let at = g.O.BitAt.at_of in
    let command = plain_command width request in
    let plain = step-same number (λ n. n) width at (span_of c.span-own.result) old new
    c.command_of-command.result command (reply_number number c.step.result)
    c.command_of-command.ensures c.step.ensures in
    let reply = reply_of c.plain_reply.result in
    let stepped : IsStep (λ n. n) width at (plain_span width named) old command reply new =
    rw (← c.span-own.ensures.span, c.plain_reply.ensures.reply) plain in
    one_plain width g.O.BitAt.at_of spans old new request c.plain_reply.result
    (run-one (λ n. n) width g.O.BitAt.at_of (plain_span width) spans old new (plain_request width request)
    (reply_of c.plain_reply.result) can (record {
      named = named;
      is_named = slice_get-get_or spans request.span none (omega arith);
      step = stepped;
    }))
    c.plain_reply.ensures.plain

pub returns-else-request-spans : goal.returns-else-request-spans
returns-else-request-spans g c =
    let width = g.R.BitRegister.BITS in
    let memory = map g.R.BitRegister.number c.args.memory.now in
    let request = plain_request width c.args.request.now in
    one_plain width g.O.BitAt.at_of c.args.spans.now memory memory c.args.request.now c.plain_reply-else-request-spans.result
    (subst (λ (r : Reply ℕ). IsRun (λ n. n) width g.O.BitAt.at_of (plain_span width) c.args.spans.now memory (request ∷ []) (r ∷ []) memory) (sym c.plain_reply-else-request-spans.ensures.reply)
    (run-no_span (λ n. n) width g.O.BitAt.at_of (plain_span width) c.args.spans.now memory request (omega arith)))
    c.plain_reply-else-request-spans.ensures.plain
