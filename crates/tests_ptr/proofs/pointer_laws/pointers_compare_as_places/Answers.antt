use Rattle.std.proofs.Common.{◌∙◌}
use Rattle.bitvec_ptr.specs.BitPtr.{ptr_of}
use Rattle.bitvec_ptr.proofs.PlaceOrder.{bit_below, cmp_places, then_equal}
use Rattle.tests_ptr.proofs.pointer_laws.pointers_compare_as_places.Goals as goal

pub returns : goal.returns
returns g c =
    let width = g.R.BitRegister.BITS in
    let eight = g.met.R.BitRegister.width_at_least_8 in
    let here = c.args.here in
    let there = c.args.there in
    let places = cmp_places width (ptr_of here) (ptr_of there) (bit_below width here.bit eight here.in_word) (bit_below width there.bit eight there.in_word) in
    rw (c.cmp.ensures ∙ then_equal _ _) places
