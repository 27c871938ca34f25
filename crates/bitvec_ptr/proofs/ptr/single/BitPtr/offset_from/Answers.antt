use Rattle.std.proofs.Common.{◌≡◌, ℤ, arith}
use Rattle.std.specs.Prelude.{FitsSigned}
use Rattle.std.specs.Int.{w64}
use mir.Val.{to_z, of_z}
use Rattle.std.proofs.lemmas.Int.{ints}
use Rattle.bitvec_ptr.proofs.StepLemmas.{wide_difference, wide_difference_fits}
use Rattle.bitvec_ptr.proofs.ptr.single.BitPtr.offset_from.Goals as goal

same : (z : ℤ) → FitsSigned w64 z → to_z w64 (of_z w64 z) ≡ z
same z fits = omega (arith, ints)

pub overflow_sub-result : goal.overflow_sub-result
overflow_sub-result g c =
    let one = c.place.ensures in
    let two = c.place-2.ensures in
    wide_difference_fits c.place.result c.place-2.result one.least one.greatest two.least two.greatest

pub overflow_cast-result : goal.overflow_cast-result
overflow_cast-result g c =
    let one = c.place.ensures in
    let two = c.place-2.ensures in
    let far = wide_difference c.place.result c.place-2.result one.least one.greatest two.least two.greatest in
    rw (far, one.value, two.value) c.requires

pub returns : goal.returns
returns g c =
    let one = c.place.ensures in
    let two = c.place-2.ensures in
    let far = wide_difference c.place.result c.place-2.result one.least one.greatest two.least two.greatest in
    rw (far, one.value, two.value) (same _ c.requires)
