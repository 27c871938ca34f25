use Rattle.std.proofs.Common.{◌≡◌, ◌∙◌, ap, arith}
use Rattle.std.specs.Int.{w64}
use mir.Val.{to_z, of_z}
use Rattle.std.proofs.lemmas.Int.{ints}
use Rattle.bitvec_ptr.specs.BitPtr.{ptr_of}
use Rattle.bitvec_ptr.specs.Steps.{wrapped_ptr}
use Rattle.bitvec_ptr.proofs.StepLemmas.{cast_signed-wraps}
use Rattle.bitvec_ptr.proofs.ptr.single.BitPtr.wrapping_add.Goals as goal

pub returns : goal.returns
returns g c =
    let same : to_z w64 (of_z w64 c.cast_signed.result) ≡ c.cast_signed.result = omega (arith, ints) in
    c.wrapping_offset.ensures ∙ ap (wrapped_ptr g.R.BitRegister.BITS (ptr_of c.args.self)) (same ∙ c.cast_signed.ensures ∙ cast_signed-wraps c.args.count (omega arith))
