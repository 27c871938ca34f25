use Rattle.std.proofs.Common.{◌≡◌, ◌≤◌, ℕ, ◌+◌, ◌-◌, Bool, List, length, drop, refl, ap, subst, ◌∙◌, arith}
use Rattle.bitvec.specs.Span.{Span}
use Rattle.bitvec_slice.specs.BitSlice.{slice_len, slice_bits}
use Rattle.bitvec_slice.specs.BitSliceMut.{lent_words, lent_bits, BecomesBits}
use Rattle.bitvec_slice.specs.Numbers.{digits_be}
use Rattle.bitvec_slice.specs.Ranges.{with_range, KeepsStretches}
use Rattle.bitvec_slice.proofs.DigitListLemmas.{number_be-range}
use Rattle.bitvec_slice.proofs.NumberWordLemmas.{high_bits}
use Rattle.bitvec_slice.proofs.slice.bit_slice_mut.BitSliceMut.store_copied_be.Goals as goal

pub returns : goal.returns
returns g c =
    let old = c.args.self.now in
    let new = c.copy_from_range.new.self in
    let xs = lent_bits old in
    let from = c.args.from in
    let count = c.args.to - from in
    let few : count ≤ 128 = omega (arith, c.requires.small, g.met.N.BitRegister.width_at_most_128) in
    let given = c.split_at.result.1 in
    let end : from + slice_len given ≡ c.args.to = omega (arith, c.split_at.ensures.back_len, ap (λ (s : Span). s.len) c.all_unchecked-word.ensures.span, c.requires.ordered, few) in
    let shown : slice_bits given ≡ digits_be count (g.N.BitRegister.number c.args.value) =
    c.split_at.ensures.back ∙ ap (λ (us : List Bool). drop (128 - count) us) c.all_unchecked-word.ensures.bits ∙ high_bits _ c.to_u128.result count few (λ i h. refl) ∙ ap (digits_be count) c.to_u128.ensures.number in
    let value = g.N.BitRegister.number c.args.value in
    let stored : BecomesBits old new (with_range xs from c.args.to (digits_be count value)) =
    subst (λ (p : ℕ). BecomesBits old new (with_range xs from p (digits_be count value))) end
    (subst (λ (us : List Bool). BecomesBits old new (with_range xs from (from + slice_len given) us)) shown c.copy_from_range.ensures.bits) in
    let inside : c.args.to ≤ length xs = omega (arith, c.requires.inside, old.many (lent_words old)) in
    record {
      bits = stored;
      loaded = number_be-range xs (lent_bits new) from c.args.to value c.requires.ordered inside stored.0;
      beside = subst (λ (p : ℕ). KeepsStretches from p xs (lent_bits new)) end c.copy_from_range.ensures.beside;
    }
