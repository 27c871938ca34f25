use Rattle.std.proofs.Common.{sym, ◌∙◌}
use Rattle.bitvec_ptr.specs.BitPtrRange.{range_of}
use Rattle.bitvec_ptr.proofs.RangeLemmas.{length-places_of}
use Rattle.bitvec_ptr.proofs.ptr.range.BitPtrRangeExactSizeIterator.len.Goals as goal

pub returns-clause-value : goal.returns-clause-value
returns-clause-value g c = c.left.ensures.value ∙ sym (length-places_of g.R.BitRegister.BITS (range_of c.args.self.now))
