use Rattle.bitvec_ptr.specs.BitPtr.{ptr_of}
use Rattle.bitvec_ptr.specs.BitPtrRange.{range_of}
use Rattle.bitvec_ptr.proofs.PlaceOrder.{bit_below}
use Rattle.bitvec_ptr.proofs.RangeEnds.{end_after, end_after_last}
use Rattle.bitvec_ptr.proofs.RangeLemmas.{last_given, progress_last}
use Rattle.bitvec_ptr.proofs.ptr.range.BitPtrRangeDoubleEndedIterator.next_back.Goals as goal

pub returns-clause-steps : goal.returns-clause-steps
returns-clause-steps g c =
    let old = c.args.self.now in
    let new = c.nth_back.new.self in
    last_given g.R.BitRegister.BITS (λ p. ptr_of p) (range_of old) (range_of new) c.nth_back.result c.nth_back.ensures.start old.ordered new.ordered c.nth_back.ensures.item

pub returns-clause-goes : goal.returns-clause-goes
returns-clause-goes g c = progress_last _ _ _ _ _ _ tt (returns-clause-steps g c)

pub returns-clause-end : goal.returns-clause-end
returns-clause-end g c =
    let old = c.args.self.now in
    let new = c.nth_back.new.self in
    let width = g.R.BitRegister.BITS in
    let eight = g.met.R.BitRegister.width_at_least_8 in
    end_after width (λ p. ptr_of p) (range_of old) (range_of new) c.nth_back.result old.ordered (bit_below width old.start.bit eight old.start.in_word) (bit_below width old.end.bit eight old.end.in_word) c.nth_back.ensures.item

pub returns-clause-last : goal.returns-clause-last
returns-clause-last g c =
    let old = c.args.self.now in
    let new = c.nth_back.new.self in
    let width = g.R.BitRegister.BITS in
    let eight = g.met.R.BitRegister.width_at_least_8 in
    end_after_last width (λ p. ptr_of p) (range_of old) (range_of new) c.nth_back.result old.ordered (bit_below width old.start.bit eight old.start.in_word) (bit_below width new.end.bit eight new.end.in_word) c.nth_back.ensures.item
