use Rattle.std.proofs.Common.{◌∙◌, ap, pos, arith}
use Rattle.std.specs.Prelude.{FitsSigned}
use Rattle.std.specs.Int.{w64}
use Rattle.std.proofs.lemmas.Int.{ints}
use Rattle.bitvec_ptr.proofs.StepLemmas.{wide_place, place_far, wide_word_fits, wide_product_fits, wide_sum_fits}
use Rattle.bitvec_ptr.proofs.ptr.single.BitPtr.place.Goals as goal

pub overflow_cast-result : goal.overflow_cast-result
overflow_cast-result g c =
    let word : FitsSigned w64 c.args.self.word = omega (arith, ints) in
    wide_word_fits c.args.self.word word

pub overflow_mul-result : goal.overflow_mul-result
overflow_mul-result g c =
    let word : FitsSigned w64 c.args.self.word = omega (arith, ints) in
    let limit = g.met.R.BitRegister.width_at_most_128 in
    wide_product_fits g.R.BitRegister.BITS c.args.self.word c.from.result limit word (c.from.ensures ∙ ap pos c.BITS.ensures)

pub overflow_add-result : goal.overflow_add-result
overflow_add-result g c =
    let word : FitsSigned w64 c.args.self.word = omega (arith, ints) in
    let limit = g.met.R.BitRegister.width_at_most_128 in
    wide_sum_fits g.R.BitRegister.BITS c.args.self.bit c.args.self.word c.from.result c.from-2.result limit c.args.self.in_word word (c.from.ensures ∙ ap pos c.BITS.ensures) c.from-2.ensures

pub returns : goal.returns
returns g c =
    let word : FitsSigned w64 c.args.self.word = omega (arith, ints) in
    let limit = g.met.R.BitRegister.width_at_most_128 in
    let value = wide_place g.R.BitRegister.BITS c.args.self.bit c.args.self.word c.from.result c.from-2.result limit c.args.self.in_word word (c.from.ensures ∙ ap pos c.BITS.ensures) c.from-2.ensures in
    let far = place_far g.R.BitRegister.BITS c.args.self.bit c.args.self.word limit c.args.self.in_word word in
    record { value = value; least = rw value far.0; greatest = rw value far.1; word = omega (arith, ints, word) }
