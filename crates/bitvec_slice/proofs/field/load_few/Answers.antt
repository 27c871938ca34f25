use Rattle.std.proofs.Common.{◌≡◌, ℕ, map, sym, ap, subst, ◌∙◌, arith}
use Rattle.bitvec.specs.BitSpan.{span_of}
use Rattle.bitvec.specs.Place.{words_met}
use Rattle.bitvec.specs.Span.{element, list_of}
use Rattle.bitvec.proofs.PartLemmas.{length-list_of}
use Rattle.bitvec_slice.specs.Field.{IsPlacedPart}
use Rattle.bitvec_slice.proofs.FieldLemmas.{two_words, three_words}
use Rattle.bitvec_slice.proofs.field.load_few.Goals as goal

pub returns-then-elements-eq2 : goal.returns-then-elements-eq2
returns-then-elements-eq2 g c =
    let width = g.R.BitRegister.BITS in
    let rises = g.O.Sequential.RISES in
    let span = c.args.span in
    let eight = g.met.R.BitRegister.width_at_least_8 in
    let words = map g.R.BitRegister.number c.args.memory.now in
    let xs = list_of width g.O.BitAt.at_of (span_of span) words in
    let long = length-list_of width g.O.BitAt.at_of (span_of span) words in
    let a = g.N.BitRegister.number c.load_digits-first.result in
    let b = g.N.BitRegister.number c.load_digits.result in
    two_words c.args.big rises width span.head xs g.N.BitRegister.BITS (omega (arith, eight)) (omega (arith, span.in_word, eight)) a b (g.N.BitRegister.number c.or-both.result) c.or-both.ensures.below
    (omega (arith, long, c.requires.small)) c.or-both.ensures.digits
    (ap (words_met width span.head) long ∙ sym c.requires.met ∙ c.if-elements-eq2.true)
    (subst (λ (m : ℕ). IsPlacedPart c.args.big width rises span.head m 0 (element xs) a) (sym long) c.load_digits-first.ensures.part)
    (subst (λ (m : ℕ). IsPlacedPart c.args.big width rises span.head m 1 (element xs) b) (sym long) c.load_digits.ensures.part)

pub returns : goal.returns
returns g c =
    let width = g.R.BitRegister.BITS in
    let rises = g.O.Sequential.RISES in
    let span = c.args.span in
    let eight = g.met.R.BitRegister.width_at_least_8 in
    let words = map g.R.BitRegister.number c.args.memory.now in
    let xs = list_of width g.O.BitAt.at_of (span_of span) words in
    let long = length-list_of width g.O.BitAt.at_of (span_of span) words in
    let a = g.N.BitRegister.number c.load_digits-first.result in
    let b = g.N.BitRegister.number c.load_digits.result in
    let d = g.N.BitRegister.number c.load_digits-2.result in
    let three : c.args.elements ≡ 3 = omega (arith, c.if-elements-eq2.false, c.requires.least, c.requires.most) in
    three_words c.args.big rises width span.head xs g.N.BitRegister.BITS (omega (arith, eight)) (omega (arith, span.in_word, eight)) a b d (g.N.BitRegister.number c.or-both.result) (g.N.BitRegister.number c.or.result) c.or.ensures.below
    (omega (arith, long, c.requires.small)) c.or-both.ensures.digits c.or.ensures.digits
    (ap (words_met width span.head) long ∙ sym c.requires.met ∙ three)
    (subst (λ (m : ℕ). IsPlacedPart c.args.big width rises span.head m 0 (element xs) a) (sym long) c.load_digits-first.ensures.part)
    (subst (λ (m : ℕ). IsPlacedPart c.args.big width rises span.head m 1 (element xs) b) (sym long) c.load_digits.ensures.part)
    (subst (λ (m : ℕ). IsPlacedPart c.args.big width rises span.head m 2 (element xs) d) (sym long) c.load_digits-2.ensures.part)
