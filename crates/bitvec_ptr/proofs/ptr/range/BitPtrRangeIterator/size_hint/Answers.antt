use Rattle.std.proofs.Common.{rules, Some, IfSome, sym, subst}
use Rattle.std.specs.Iterator.{at_most, UpTo}
use Rattle.std.specs.Iterator.SizeHint.{IsWithinCount}
use Rattle.bitvec_ptr.specs.BitPtrRange.{range_of}
use Rattle.bitvec_ptr.proofs.RangeLemmas.{length-places_of}
use Rattle.bitvec_ptr.proofs.ptr.range.BitPtrRangeIterator.size_hint.Goals as goal

pub returns-clause-lower : goal.returns-clause-lower
returns-clause-lower g c =
    let range = range_of c.args.self.now in
    let long = length-places_of g.R.BitRegister.BITS range in
    search (rules, long, c.left-left.ensures.value)

pub returns-clause-upper : goal.returns-clause-upper
returns-clause-upper g c =
    let range = range_of c.args.self.now in
    let long = length-places_of g.R.BitRegister.BITS range in
    search (rules, long, c.left-left.ensures.value)
