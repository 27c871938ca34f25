use Rattle.std.proofs.Common.{refl}
use Rattle.bitvec_ptr.specs.BitPtr.{ptr_of}
use Rattle.bitvec_ptr.proofs.PlaceOrder.{bit_below, lt_places, le_places}
use Rattle.bitvec_ptr.proofs.ptr.range.BitPtrRange.contains.Goals as goal

pub returns-then-le : goal.returns-then-le
returns-then-le g c =
    let width = g.R.BitRegister.BITS in
    let eight = g.met.R.BitRegister.width_at_least_8 in
    let start = c.args.self.now.start in
    let end = c.args.self.now.end in
    let point = c.args.pointer.now in
    let mid = bit_below width point.bit eight point.in_word in
    let le = le_places width (ptr_of start) (ptr_of point) _ (bit_below width start.bit eight start.in_word) mid c.if-le.ensures in
    let lt = lt_places width (ptr_of point) (ptr_of end) _ mid (bit_below width end.bit eight end.in_word) c.lt.ensures in
    (λ t. (le.0 refl, lt.0 t), λ h. lt.1 h.1)

pub returns-else-le : goal.returns-else-le
returns-else-le g c =
    let width = g.R.BitRegister.BITS in
    let eight = g.met.R.BitRegister.width_at_least_8 in
    let start = c.args.self.now.start in
    let point = c.args.pointer.now in
    let le = le_places width (ptr_of start) (ptr_of point) _ (bit_below width start.bit eight start.in_word) (bit_below width point.bit eight point.in_word) c.if-le.ensures in
    (λ t. absurd (let no = c.if-le.false in cc), λ h. absurd (let no = le.1 h.0 in cc))
