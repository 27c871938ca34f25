use Rattle.std.proofs.Common.{◌<◌, ◌^◌, ℕ, sym, subst, ◌∙◌}
use Rattle.std.proofs.lemmas.Bool.{eqb-true, eq-eqb}
use Rattle.bitvec_stream.proofs.DigitRangeLemmas.{above_none, none_above}
use Rattle.bitvec_stream.proofs.writer.numbers.has_digits.Goals as goal

pub returns-then-count-bits_of : goal.returns-then-count-bits_of
returns-then-count-bits_of g c =
    let n = g.N.BitRegister.number c.args.number in
    (λ _. subst (λ (k : ℕ). n < 2 ^ k) (sym (c.if-count-bits_of.true ∙ c.bits_of.ensures.value)) c.to_u128-digits.ensures.below, λ _. eq-eqb c.args.count c.bits_of.result c.if-count-bits_of.true)

pub returns-else-count-bits_of : goal.returns-else-count-bits_of
returns-else-count-bits_of g c =
    let digits = c.to_u128-digits.result in
    let n = g.N.BitRegister.number c.args.number in
    let same = c.to_u128-digits.ensures.number in
    (λ h. subst (λ (m : ℕ). m < 2 ^ c.args.count) same (above_none digits c.args.count (eqb-true _ 0 h)), λ h. eq-eqb _ 0 (none_above digits c.args.count (subst (λ (m : ℕ). m < 2 ^ c.args.count) (sym same) h)))
