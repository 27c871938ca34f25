use Rattle.std.proofs.Common.{◌≡◌, IsTrue, ◌↔◌, ap, sym, rules}
use Rattle.bitvec_ptr.specs.BitPtr.{ptr_of}
use Rattle.bitvec_ptr.specs.BitPtrRange.{range_of}
use Rattle.bitvec_ptr.specs.Place.{place_of}
use Rattle.bitvec_ptr.proofs.PlaceOrder.{bit_below, place_same}
use Rattle.bitvec_ptr.proofs.RangeLemmas.{places_none, ends_meet}
use Rattle.bitvec_ptr.proofs.ptr.range.BitPtrRange.is_empty.Goals as goal

pub returns-clause-items : goal.returns-clause-items
returns-clause-items g c =
    let width = g.R.BitRegister.BITS in
    let eight = g.met.R.BitRegister.width_at_least_8 in
    let start = c.args.self.now.start in
    let end = c.args.self.now.end in
    let ends : IsTrue c.eq.result ↔ (ptr_of start ≡ ptr_of end) = search rules in (
      λ t. places_none width (range_of c.args.self.now) (ap (place_of width) (sym (ends.0 t))),
      λ none. ends.1 (place_same width (ptr_of start) (ptr_of end) (bit_below width start.bit eight start.in_word) (bit_below width end.bit eight end.in_word) (ends_meet width (range_of c.args.self.now) c.args.self.now.ordered none)),
    )
