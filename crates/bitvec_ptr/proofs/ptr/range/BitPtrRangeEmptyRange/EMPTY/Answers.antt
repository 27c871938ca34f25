use Rattle.bitvec_ptr.proofs.RangeLemmas.{range_same}
use Rattle.bitvec_ptr.proofs.ptr.range.BitPtrRangeEmptyRange.EMPTY.Goals as goal

pub returns : goal.returns
returns g c = range_same _ _ c.DANGLING.ensures c.DANGLING-2.ensures
