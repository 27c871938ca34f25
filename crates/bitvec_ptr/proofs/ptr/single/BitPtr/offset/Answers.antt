use Rattle.std.proofs.Common.{◌≡◌, ◌<◌, ◌+ℤ◌, pos, ap, ◌∙◌, arith}
use Rattle.std.specs.Int.{w64, int_div_euclid}
use Rattle.std.specs.Prelude.{FitsSigned}
use Rattle.std.proofs.lemmas.Int.{ints, int_wrap_fits}
use Rattle.bitvec_ptr.specs.Place.{place_of}
use Rattle.bitvec_ptr.proofs.StepLemmas.{far_same, moved-from_step}
use Rattle.bitvec_ptr.proofs.ptr.single.BitPtr.offset.Goals as goal

pub overflow_add-self : goal.overflow_add-self
overflow_add-self g c =
    let width = g.R.BitRegister.BITS in
    let far = far_same _ c.args.self.bit c.args.count c.ranges.count c.bit.ensures.value ∙ int_wrap_fits w64 (pos c.args.self.bit +ℤ c.args.count) c.requires.0 in
    let q : c.offset-words.result.0 ≡ int_div_euclid (pos c.args.self.bit +ℤ c.args.count) (pos width) = c.offset-words.ensures.carried ∙ ap (λ z. int_div_euclid z (pos width)) far in
    let fits : FitsSigned w64 (c.args.self.word +ℤ c.offset-words.result.0) = rw q c.requires.1 in
    omega (arith, ints)

pub returns : goal.returns
returns g c =
    let width = g.R.BitRegister.BITS in
    let some : 0 < width = omega (arith, g.met.R.BitRegister.width_at_least_8) in
    let far = far_same _ c.args.self.bit c.args.count c.ranges.count c.bit.ensures.value ∙ int_wrap_fits w64 (pos c.args.self.bit +ℤ c.args.count) c.requires.0 in
    let q : c.offset-words.result.0 ≡ int_div_euclid (pos c.args.self.bit +ℤ c.args.count) (pos width) = c.offset-words.ensures.carried ∙ ap (λ z. int_div_euclid z (pos width)) far in
    let fits : FitsSigned w64 (c.args.self.word +ℤ c.offset-words.result.0) = rw q c.requires.1 in
    ap (place_of width) c.new.ensures
    ∙ moved-from_step (record { sum = far; carried = c.offset-words.ensures.carried; index = c.offset-words.ensures.index }) c.args.self.word _ some (omega (arith, ints))
