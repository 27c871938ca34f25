use Rattle.std.proofs.Common.{rules, ◌≡◌, ◌+◌, ◌*◌, ◌/◌, ap, subst, arith, ◌∙◌}
use Rattle.std.proofs.lemmas.Nat.{div-add-mod', mod_below}
use Rattle.bitvec.specs.Span.{Span}
use Rattle.bitvec_slice.specs.Words.{HasWord}
use Rattle.bitvec_stream.proofs.writer.BitWriter.keep_word.Goals as goal

pub know-requires-clause-whole : goal.know-requires-clause-whole
know-requires-clause-whole g c =
    let k = (c.head.result + c.position-position.result) / c.bits_of-width.result in
    subst (λ (s : Span). HasWord g.R.BitRegister.BITS s k) c.slice-slice.ensures.span (c.if-has_word.ensures.0 (search rules))

pub know-requires-clause-inner : goal.know-requires-clause-inner
know-requires-clause-inner g c =
    let wide = g.met.R.BitRegister.width_at_least_8 in
    omega (arith, mod_below (c.head.result + c.position-position.result) c.bits_of-width.result (omega (arith, wide, c.bits_of-width.ensures.value)), c.bits_of-width.ensures.value)

pub know-requires-clause-place : goal.know-requires-clause-place
know-requires-clause-place g c =
    let place = c.head.result + c.position-position.result in
    let width = c.bits_of-width.result in
    let head = c.head.ensures ∙ ap (λ (s : Span). s.head) c.slice-slice.ensures.span in
    let product : place / width * width ≡ place / width * g.R.BitRegister.BITS = ap (λ n. place / width * n) c.bits_of-width.ensures.value in
    omega (arith, head, c.position-position.ensures.value, div-add-mod' place width, product)
