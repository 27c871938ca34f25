use Rattle.std.proofs.Common.{◌≡◌, ℕ, not, map, sym, subst, ◌∙◌, arith}
use Rattle.bitvec.specs.BitSpan.{span_of}
use Rattle.bitvec.specs.Digit.{digit}
use Rattle.bitvec.specs.Span.{element, list_of}
use Rattle.bitvec_slice.specs.Field.{IsSequential, digit_place}
use Rattle.bitvec_slice.specs.Words.{HasElements}
use Rattle.bitvec_slice.proofs.FieldJoinLemmas.{four_rising, four_falling}
use Rattle.bitvec_slice.proofs.field.load_four.Goals as goal

pub returns-then-RISES : goal.returns-then-RISES
returns-then-RISES g c = λ j h.
    let span = c.args.span in
    let bits = g.R.BitRegister.BITS in
    let at = g.O.BitAt.at_of in
    let number = g.R.BitRegister.number in
    let rises = g.O.Sequential.RISES in
    let bit = element (list_of bits at (span_of span) (map number c.args.memory.now)) in
    let eight = c.requires.bytes in
    let law = subst (λ (b : ℕ). IsSequential b rises at) eight g.met.O.Sequential.sequence in
    let first = subst (λ (b : ℕ). HasElements b at (span_of span) 0 (number c.word_from-first.result) bit) eight c.word_from-first.ensures in
    let second = subst (λ (b : ℕ). HasElements b at (span_of span) 1 (number c.word_from-second.result) bit) eight c.word_from-second.ensures in
    let third = subst (λ (b : ℕ). HasElements b at (span_of span) 2 (number c.word_from-third.result) bit) eight c.word_from-third.ensures in
    let last = subst (λ (b : ℕ). HasElements b at (span_of span) 3 (number c.word_from-last.result) bit) eight c.word_from-last.ensures in
    let r = c.shr.result in
    subst (λ (b : ℕ). digit r (digit_place (not rises) b rises span.head span.len j) ≡ bit j) (sym eight)
    (four_rising span.head span.len at bit (number c.word_from-first.result) (number c.word_from-second.result) (number c.word_from-third.result) (number c.word_from-last.result)
    c.four_bytes.result r c.into_inner-head.result c.four_bytes.ensures.first c.four_bytes.ensures.second c.four_bytes.ensures.third c.four_bytes.ensures.last c.shr.ensures.moved
    rises (sym c.RISES.ensures ∙ c.if-RISES.true) law first second third last c.requires.few (omega (arith, c.into_inner-head.ensures.value, c.head.ensures)) j h)

pub returns : goal.returns
returns g c = λ j h.
    let span = c.args.span in
    let bits = g.R.BitRegister.BITS in
    let at = g.O.BitAt.at_of in
    let number = g.R.BitRegister.number in
    let rises = g.O.Sequential.RISES in
    let bit = element (list_of bits at (span_of span) (map number c.args.memory.now)) in
    let eight = c.requires.bytes in
    let law = subst (λ (b : ℕ). IsSequential b rises at) eight g.met.O.Sequential.sequence in
    let first = subst (λ (b : ℕ). HasElements b at (span_of span) 0 (number c.word_from-first.result) bit) eight c.word_from-first.ensures in
    let second = subst (λ (b : ℕ). HasElements b at (span_of span) 1 (number c.word_from-second.result) bit) eight c.word_from-second.ensures in
    let third = subst (λ (b : ℕ). HasElements b at (span_of span) 2 (number c.word_from-third.result) bit) eight c.word_from-third.ensures in
    let last = subst (λ (b : ℕ). HasElements b at (span_of span) 3 (number c.word_from-last.result) bit) eight c.word_from-last.ensures in
    let r = c.shr-2.result in
    subst (λ (b : ℕ). digit r (digit_place (not rises) b rises span.head span.len j) ≡ bit j) (sym eight)
    (four_falling span.head span.len at bit (number c.word_from-last.result) (number c.word_from-third.result) (number c.word_from-second.result) (number c.word_from-first.result)
    c.four_bytes-2.result r _ c.four_bytes-2.ensures.first c.four_bytes-2.ensures.second c.four_bytes-2.ensures.third c.four_bytes-2.ensures.last c.shr-2.ensures.moved
    rises (sym c.RISES.ensures ∙ c.if-RISES.false) law first second third last c.requires.few (omega (arith, c.into_inner-head.ensures.value, c.head.ensures, c.len.ensures)) j h)
