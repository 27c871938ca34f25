use Rattle.std.proofs.Common.{◌≡◌, IsTrue, ◌↔◌, ap, rules}
use Rattle.bitvec_ptr.specs.BitPtr.{ptr_of}
use Rattle.bitvec_ptr.specs.Place.{place_of}
use Rattle.bitvec_ptr.proofs.PlaceOrder.{bit_below, place_same}
use Rattle.tests_ptr.proofs.pointer_laws.pointers_are_equal_at_one_place.Goals as goal

pub returns : goal.returns
returns g c =
    let width = g.R.BitRegister.BITS in
    let eight = g.met.R.BitRegister.width_at_least_8 in
    let here = c.args.here in
    let there = c.args.there in
    let parts : IsTrue c.eq.result ↔ (ptr_of here ≡ ptr_of there) = search rules in
    (λ t. ap (place_of width) (parts.0 t), λ e. parts.1 (place_same width (ptr_of here) (ptr_of there) (bit_below width here.bit eight here.in_word) (bit_below width there.bit eight there.in_word) e))
