use Rattle.std.proofs.Common.{rules, ◌≡◌, ◌+◌, get_or, map, sym, ap, ◌∙◌, arith}
use Rattle.std.proofs.lemmas.Bool.{eqb-true}
use Rattle.std.specs.Prelude.{nat_abs, slice_index}
use Rattle.std.specs.Int.{w64}
use Rattle.std.proofs.lemmas.Int.{ints}
use mir.Val.{to_z, of_z}
use Rattle.bitvec.specs.Digit.{digit}
use Rattle.bitvec_slice.specs.BitSlice.{slice_memory, slice_span}
use Rattle.bitvec_slice.proofs.SkipLemmas.{number_at, or_zero, word_alone}
use Rattle.bitvec_slice.proofs.slice.bit_slice.BitSlice.has_digits.Goals as goal

pub returns : goal.returns
returns g c = λ yes.
    let number = g.R.BitRegister.number in
    let memory = slice_memory c.args.self.now in
    let at = nat_abs (to_z w64 (of_z w64 c.address.result)) in
    let word = get_or memory (at + c.args.k) c.index-self-address.result in
    let joined = c.or.result in
    let same = eqb-true (number joined) (number c.args.lacking) (sym (c.eq.ensures ∙ g.met.R.BitRegister.eq_compares_numbers joined c.args.lacking c.or.ensures.below c.requires.below) ∙ yes) in
    let first : at ≡ nat_abs (slice_span c.args.self.now).word = ap nat_abs (let here : to_z w64 (of_z w64 c.address.result) ≡ (slice_span c.args.self.now).word = omega (arith, ints, c.address.ensures) in here) in
    let is = number_at number memory (at + c.args.k) c.index-self-address.result (search rules) ∙ ap (λ n. slice_index (map number memory) (n + c.args.k)) first in
    word_alone g.R.BitRegister.BITS (number c.args.lacking) (map number memory) (nat_abs (slice_span c.args.self.now).word + c.args.k) _ (omega arith)
    (λ p small. sym (ap (λ w. digit w p) is) ∙ or_zero (number word) (number c.ZERO.result) (number joined) p (ap number c.ZERO.ensures ∙ g.met.R.BitRegister.zero_is_0) (c.or.ensures.digits p small) ∙ ap (λ w. digit w p) same)
