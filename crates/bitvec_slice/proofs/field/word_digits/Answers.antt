use Rattle.std.proofs.Common.{◌≡◌, ℕ, ◌+◌, ◌<◌, ◌∙◌, subst, arith}
use Rattle.bitvec.specs.Digit.{digit}
use Rattle.bitvec_slice.specs.Field.{part_place, part_shift}
use Rattle.bitvec_slice.proofs.FieldStoreLemmas.{stored_digit}
use Rattle.bitvec_slice.proofs.field.word_digits.Goals as goal

pub returns : goal.returns
returns g c =
    let width = g.R.BitRegister.BITS in
    let most = g.N.BitRegister.BITS in
    let span = c.args.span in
    let eight = g.met.R.BitRegister.width_at_least_8 in
    let v = g.N.BitRegister.number c.args.value in
    let part = g.N.BitRegister.number c.shr-part.result in
    let r = g.R.BitRegister.number c.shl.result in
    let down = subst (λ (n : ℕ). (p : ℕ) → n + p < most → digit part p ≡ digit v (n + p)) {y = part_place c.args.big width span.head span.len c.args.k} c.place.ensures.value c.shr-part.ensures.moved in
    let up = subst (λ (n : ℕ). (p : ℕ) → n + p < width → digit r (n + p) ≡ digit part p) {y = part_shift g.O.Sequential.RISES width span.head span.len c.args.k} c.shift.ensures.value
    (λ p h. c.shl.ensures.moved p h ∙ c.low_digits.ensures.digits p (omega (arith, h))) in
    λ j inside word.
    stored_digit width span.head span.len c.args.k v (omega (arith, eight)) (omega (arith, span.in_word, eight)) j inside word
    c.args.big g.O.Sequential.RISES g.O.BitAt.at_of most part r g.met.O.Sequential.sequence c.requires.small down up
