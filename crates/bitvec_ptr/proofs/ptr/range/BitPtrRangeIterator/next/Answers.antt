use Rattle.bitvec_ptr.specs.BitPtr.{ptr_of}
use Rattle.bitvec_ptr.specs.BitPtrRange.{range_of}
use Rattle.bitvec_ptr.proofs.PlaceOrder.{bit_below}
use Rattle.bitvec_ptr.proofs.RangeEnds.{start_after, start_after_last}
use Rattle.bitvec_ptr.proofs.RangeLemmas.{first_given, progress_first}
use Rattle.bitvec_ptr.proofs.ptr.range.BitPtrRangeIterator.next.Goals as goal

pub returns-clause-steps : goal.returns-clause-steps
returns-clause-steps g c =
    let old = c.args.self.now in
    let new = c.nth.new.self in
    first_given g.R.BitRegister.BITS (λ p. ptr_of p) (range_of old) (range_of new) c.nth.result c.nth.ensures.end old.ordered new.ordered c.nth.ensures.item

pub returns-clause-goes : goal.returns-clause-goes
returns-clause-goes g c = progress_first _ _ _ _ _ _ tt (returns-clause-steps g c)

pub returns-clause-start : goal.returns-clause-start
returns-clause-start g c =
    let old = c.args.self.now in
    let new = c.nth.new.self in
    let width = g.R.BitRegister.BITS in
    let eight = g.met.R.BitRegister.width_at_least_8 in
    start_after width (λ p. ptr_of p) (range_of old) (range_of new) c.nth.result old.ordered (bit_below width old.start.bit eight old.start.in_word) (bit_below width old.end.bit eight old.end.in_word) c.nth.ensures.item

pub returns-clause-last : goal.returns-clause-last
returns-clause-last g c =
    let old = c.args.self.now in
    let new = c.nth.new.self in
    let width = g.R.BitRegister.BITS in
    let eight = g.met.R.BitRegister.width_at_least_8 in
    start_after_last width (λ p. ptr_of p) (range_of old) (range_of new) c.nth.result old.ordered (bit_below width new.start.bit eight new.start.in_word) (bit_below width old.end.bit eight old.end.in_word) c.nth.ensures.item
