use Rattle.std.proofs.Common.{◌∙◌, ap, pos, arith}
use Rattle.std.specs.Prelude.{FitsSigned}
use Rattle.std.specs.Int.{w64}
use Rattle.std.proofs.lemmas.Int.{ints}
use Rattle.bitvec_ptr.proofs.StepLemmas.{wide_word_fits, wide_product_fits, wide_sum_fits}
use Rattle.replay_lib.proofs.pointers.place_of.Goals as goal

pub overflow_cast-result : goal.overflow_cast-result
overflow_cast-result g c =
    let f : FitsSigned w64 c.args.pointer.word = omega (arith, ints) in
    wide_word_fits c.address.result (omega (arith, ints, f, c.address.ensures))

pub overflow_mul-result : goal.overflow_mul-result
overflow_mul-result g c =
    let f : FitsSigned w64 c.args.pointer.word = omega (arith, ints) in
    wide_product_fits g.R.BitRegister.BITS c.address.result c.from.result g.met.R.BitRegister.width_at_most_128 (omega (arith, ints, f, c.address.ensures)) (c.from.ensures ∙ ap pos c.BITS.ensures)

pub overflow_add-result : goal.overflow_add-result
overflow_add-result g c =
    let f : FitsSigned w64 c.args.pointer.word = omega (arith, ints) in
    wide_sum_fits g.R.BitRegister.BITS c.into_inner-bit.result c.address.result c.from.result c.from-2.result g.met.R.BitRegister.width_at_most_128 (omega (arith, c.bit.ensures, c.into_inner-bit.ensures)) (omega (arith, ints, f, c.address.ensures)) (c.from.ensures ∙ ap pos c.BITS.ensures) c.from-2.ensures
