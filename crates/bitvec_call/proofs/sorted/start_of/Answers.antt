use Rattle.std.proofs.Common.{get_or, arith}
use Rattle.std.proofs.lemmas.Nat.{div-add-mod'}
use Rattle.std.proofs.lemmas.Option.{slice_get-get_or, slice_get_past}
use Rattle.bitvec_call.specs.declared.plain.PlainSpan.{PlainSpan}
use Rattle.bitvec_call.proofs.sorted.start_of.Goals as goal

pub returns-then-i-spans : goal.returns-then-i-spans
returns-then-i-spans g c =
    let none : PlainSpan = record { start = 0; count = 0 } in
    let spans = c.args.spans.now in
    rw (slice_get-get_or spans c.args.i none c.if-i-spans.true)
    (omega (arith, div-add-mod' (get_or spans c.args.i none).start g.R.BitRegister.BITS))

pub returns-else-i-spans : goal.returns-else-i-spans
returns-else-i-spans g c =
    rw (slice_get_past c.args.spans.now c.args.i c.if-i-spans.false) (omega arith)
