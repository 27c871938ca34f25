use Rattle.std.proofs.Common.{◌≡◌, ◌+ℤ◌, pos, ap, sym, ◌∙◌, arith}
use Rattle.std.specs.Prelude.{FitsSigned, IsTrue, ◌↔◌}
use Rattle.std.specs.Option.{is_some}
use Rattle.std.specs.Int.{w64, int_div_euclid}
use Rattle.std.proofs.lemmas.Int.{ints, int_wrap_fits}
use mir.Val.{to_z, of_z}
use Rattle.bitvec_ptr.proofs.StepLemmas.{far_same, some_if_fits}
use Rattle.bitvec_ptr.proofs.ptr.single.BitPtr.can_offset.Goals as goal

pub returns : goal.returns
returns g c =
    let width = g.R.BitRegister.BITS in
    let far = pos c.args.self.bit +ℤ c.args.count in
    let bit : to_z w64 (of_z w64 c.from.result) +ℤ to_z w64 (of_z w64 c.args.count) ≡ far = omega (arith, ints) in
    let first : FitsSigned w64 far = rw (sym bit) c.in-Some.ensures.0 in
    let same = far_same _ c.args.self.bit c.args.count c.ranges.count c.bit.ensures.value ∙ int_wrap_fits w64 far first in
    let q : c.offset-words.result.0 ≡ int_div_euclid far (pos width) = c.offset-words.ensures.carried ∙ ap (λ z. int_div_euclid z (pos width)) same in
    let next = c.args.self.word +ℤ int_div_euclid far (pos width) in
    let sum : to_z w64 (of_z w64 c.args.self.word) +ℤ to_z w64 (of_z w64 c.offset-words.result.0) ≡ next = omega (arith, ints) in
    let second : IsTrue (is_some c.checked_add-2.result) ↔ FitsSigned w64 next = rw sum at (some_if_fits _ _ _ c.checked_add-2.ensures) in
    rw c.is_some.ensures (λ t. (first, second.0 t), λ p. second.1 p.1)
