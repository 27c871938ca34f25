use Rattle.std.proofs.Common.{refl, arith}
use Rattle.std.proofs.lemmas.Int.{ints}
use Rattle.bitvec_ptr.specs.BitPtr.{ptr_of}
use Rattle.bitvec_ptr.proofs.PlaceOrder.{bit_below, le_places}
use Rattle.bitvec_ptr.proofs.ptr.range.BitPtrRange.can_range.Goals as goal

pub returns-then-le : goal.returns-then-le
returns-then-le g c =
    let width = g.R.BitRegister.BITS in
    let eight = g.met.R.BitRegister.width_at_least_8 in
    let start = c.args.range.now.start in
    let end = c.args.range.now.end in
    let le = le_places width (ptr_of start) (ptr_of end) _ (bit_below width start.bit eight start.in_word) (bit_below width end.bit eight end.in_word) c.if-le.ensures in
    (λ t. (le.0 refl, omega (arith, ints, c.can_offset_from.ensures.0 t)), λ h. c.can_offset_from.ensures.1 (omega (arith, ints, h.0, h.1)))

pub returns-else-le : goal.returns-else-le
returns-else-le g c =
    let width = g.R.BitRegister.BITS in
    let eight = g.met.R.BitRegister.width_at_least_8 in
    let start = c.args.range.now.start in
    let end = c.args.range.now.end in
    let le = le_places width (ptr_of start) (ptr_of end) _ (bit_below width start.bit eight start.in_word) (bit_below width end.bit eight end.in_word) c.if-le.ensures in
    (λ t. absurd (let no = c.if-le.false in cc), λ h. absurd (let no = le.1 h.0 in cc))
