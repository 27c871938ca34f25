use Rattle.std.proofs.Common.{◌+◌, ◌*◌, ap, sym, ◌∙◌, refl}
use Rattle.std.proofs.lemmas.Option.{slice_get_past}
use Rattle.std.specs.Int.{w64, cast_unsigned}
use Rattle.bitvec_span.specs.BitSpan.{span_of}
use Rattle.bitvec_span.specs.Span.{Span}
use Rattle.bitvec.proofs.OrderLemmas.{span_in-read}
use Rattle.bitvec.proofs.run.key_of.Goals as goal

pub returns-then-i-spans : goal.returns-then-i-spans
returns-then-i-spans g c =
    let one = c.index-spans-i in
    let is = span_in-read span_of c.args.spans.now c.args.i one.result c.if-i-spans.true one.is in
    let key = λ (s : Span). cast_unsigned w64 s.word * 18446744073709551616 + s.head in
    c.key.ensures ∙ ap key (sym is)

pub returns-else-i-spans : goal.returns-else-i-spans
returns-else-i-spans g c = rw (slice_get_past c.args.spans.now c.args.i c.if-i-spans.false) refl
