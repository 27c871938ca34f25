use Rattle.std.proofs.Common.{◌≡◌, ◌∙◌, ap, arith}
use Rattle.std.specs.Int.{w64, int_wrapping_neg}
use mir.Val.{to_z, of_z}
use Rattle.std.proofs.lemmas.Int.{ints}
use Rattle.bitvec_ptr.specs.BitPtr.{ptr_of}
use Rattle.bitvec_ptr.specs.Steps.{wrapped_ptr}
use Rattle.bitvec_ptr.proofs.StepLemmas.{neg-cast_signed}
use Rattle.bitvec_ptr.proofs.ptr.single.BitPtr.wrapping_sub.Goals as goal

pub returns : goal.returns
returns g c =
    let cast : to_z w64 (of_z w64 c.cast_signed.result) ≡ c.cast_signed.result = omega (arith, ints) in
    let same : to_z w64 (of_z w64 c.wrapping_neg.result) ≡ c.wrapping_neg.result = omega (arith, ints) in
    let neg = ap (int_wrapping_neg w64) (cast ∙ c.cast_signed.ensures) ∙ neg-cast_signed c.args.count (omega arith) in
    c.wrapping_offset.ensures ∙ ap (wrapped_ptr g.R.BitRegister.BITS (ptr_of c.args.self)) (same ∙ c.wrapping_neg.ensures ∙ neg)
