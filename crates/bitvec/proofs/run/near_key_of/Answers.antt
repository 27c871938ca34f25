use Rattle.std.proofs.Common.{◌≡◌, ℤ, ap, sym, ◌∙◌, refl, arith, rules}
use Rattle.std.proofs.lemmas.Int.{ints}
use Rattle.std.proofs.lemmas.Option.{slice_get_past}
use Rattle.std.specs.Int.{w64, cast_unsigned}
use mir.Val.{to_z, of_z}
use Rattle.bitvec_span.specs.BitSpan.{span_of}
use Rattle.bitvec_span.specs.Span.{Span}
use Rattle.bitvec.proofs.OrderLemmas.{span_in-read}
use Rattle.bitvec.proofs.run.near_key_of.Goals as goal

pub returns-then-i-spans : goal.returns-then-i-spans
returns-then-i-spans g c =
    let inside = c.if-i-spans.true in
    let one = c.index-spans-i in
    let two = c.index-spans-i-then-i-spans in
    let is = span_in-read span_of c.args.spans.now c.args.i one.result inside one.is in
    let same = span_in-read span_of c.args.spans.now c.args.i two.result inside two.is in
    let kept : to_z w64 (of_z w64 c.address.result) ≡ c.address.result = omega (arith, ints) in
    let place = kept ∙ c.address.ensures ∙ ap (λ (s : Span). s.word) (sym is) in
    let word = c.cast_unsigned-word.ensures ∙ ap (λ (z : ℤ). cast_unsigned w64 z) place in
    let width = c.from.ensures ∙ c.BITS.ensures in
    let inner = c.from-head.ensures ∙ c.into_inner.ensures.value ∙ c.head.ensures in
    let head = inner ∙ ap (λ (s : Span). s.head) (sym same) in
    rw (word, width, head) refl

pub returns-else-i-spans : goal.returns-else-i-spans
returns-else-i-spans g c =
    rw (slice_get_past c.args.spans.now c.args.i c.if-i-spans.false) (search rules)
