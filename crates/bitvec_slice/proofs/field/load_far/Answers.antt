use Rattle.std.proofs.Common.{ℕ, map, sym, ap, subst, ◌∙◌, arith}
use Rattle.bitvec.specs.BitSpan.{span_of}
use Rattle.bitvec.specs.Place.{words_met}
use Rattle.bitvec.specs.Span.{element, list_of}
use Rattle.bitvec.proofs.PartLemmas.{length-list_of}
use Rattle.bitvec_slice.specs.Field.{IsPlacedPart}
use Rattle.bitvec_slice.proofs.FieldLemmas.{one_word}
use Rattle.bitvec_slice.proofs.field.load_far.Goals as goal

pub returns-then-elements-eq1 : goal.returns-then-elements-eq1
returns-then-elements-eq1 g c =
    let width = g.R.BitRegister.BITS in
    let rises = g.O.Sequential.RISES in
    let span = c.args.span in
    let eight = g.met.R.BitRegister.width_at_least_8 in
    let words = map g.R.BitRegister.number c.args.memory.now in
    let xs = list_of width g.O.BitAt.at_of (span_of span) words in
    let long = length-list_of width g.O.BitAt.at_of (span_of span) words in
    let n = g.N.BitRegister.number c.load_digits.result in
    one_word c.args.big rises width span.head xs g.N.BitRegister.BITS (omega (arith, eight)) (omega (arith, span.in_word, eight)) n c.load_digits.ensures.below
    (ap (words_met width span.head) long ∙ sym c.elements-elements.ensures.value ∙ c.if-elements-eq1.true)
    (subst (λ (m : ℕ). IsPlacedPart c.args.big width rises span.head m 0 (element xs) n) (sym long) c.load_digits.ensures.part)
