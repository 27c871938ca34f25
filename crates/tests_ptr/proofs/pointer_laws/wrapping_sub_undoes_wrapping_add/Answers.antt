use Rattle.std.proofs.Common.{pos, neg_ℤ, ap, ◌∙◌, arith}
use Rattle.std.specs.Int.{w64, int_wrap}
use Rattle.std.proofs.lemmas.Int.{ints}
use Rattle.bitvec_ptr.specs.BitPtr.{ptr_of}
use Rattle.bitvec_ptr.specs.Steps.{wrapped_ptr}
use Rattle.bitvec_ptr.proofs.PlaceOrder.{bit_below}
use Rattle.tests_ptr.proofs.PointerLaws.{wrapped_back}
use Rattle.tests_ptr.proofs.pointer_laws.wrapping_sub_undoes_wrapping_add.Goals as goal

pub returns : goal.returns
returns g c =
    let width = g.R.BitRegister.BITS in
    let pointer = c.args.pointer in
    let below = bit_below width pointer.bit g.met.R.BitRegister.width_at_least_8 pointer.in_word in
    let back = wrapped_back width c.args.count (ptr_of pointer) below (omega (arith, g.met.R.BitRegister.width_at_most_128)) (omega (arith, ints)) (omega (arith, ints, c.requires)) in
    record {
      answer = c.wrapping_sub.ensures ∙ ap (λ t. wrapped_ptr width t (int_wrap w64 (neg_ℤ (pos c.args.count)))) c.wrapping_add.ensures ∙ back;
      law = back;
    }
