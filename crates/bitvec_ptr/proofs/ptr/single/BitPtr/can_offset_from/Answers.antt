use Rattle.std.proofs.Common.{◌≡◌, ◌-ℤ◌, arith}
use Rattle.std.specs.Prelude.{IsTrue, ◌↔◌, FitsSigned}
use Rattle.std.specs.Int.{w64, w128}
use Rattle.std.specs.Result.{is_ok}
use mir.Val.{to_z, of_z}
use Rattle.std.proofs.lemmas.Int.{ints}
use Rattle.bitvec_ptr.specs.BitPtr.{ptr_of}
use Rattle.bitvec_ptr.specs.Steps.{distance}
use Rattle.bitvec_ptr.proofs.StepLemmas.{ok_if_fits}
use Rattle.bitvec_ptr.proofs.ptr.single.BitPtr.can_offset_from.Goals as goal

pub returns : goal.returns
returns g c =
    let far : to_z w128 (of_z w128 (to_z w128 (of_z w128 c.place.result) -ℤ to_z w128 (of_z w128 c.place-2.result))) ≡ distance g.R.BitRegister.BITS (ptr_of c.args.self) (ptr_of c.args.origin) = omega (arith, ints) in
    let fits : IsTrue (is_ok c.try_from.result) ↔ FitsSigned w64 (distance g.R.BitRegister.BITS (ptr_of c.args.self) (ptr_of c.args.origin)) = rw far at (ok_if_fits c.try_from.result _ _ c.try_from.ensures) in
    rw c.is_ok.ensures.value fits
