use Rattle.std.proofs.Common.{refl}
use Rattle.bitvec_ptr.proofs.RangeLemmas.{range_same}
use Rattle.bitvec_ptr.proofs.ptr.range.BitPtrRangeClone.clone.Goals as goal

pub returns : goal.returns
returns g c = record { cases = range_same _ _ refl refl }
