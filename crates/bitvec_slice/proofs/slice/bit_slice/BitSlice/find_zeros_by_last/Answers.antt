use Rattle.std.proofs.Common.{arith}
use Rattle.bitvec_slice.specs.BitSlice.{slice_bits}
use Rattle.bitvec_slice.proofs.FindLemmas.{not_free_before, not_free}
use Rattle.bitvec_slice.proofs.slice.bit_slice.BitSlice.find_zeros_by_last.Goals as goal

pub loop-start-preserved : goal.loop-start-preserved
loop-start-preserved g c =
    let last = c.in-Some.ensures in
    let below = last.1 in
    (omega (arith, below, c.len-len.ensures, c.loop-start.invariant.0, c.loop-start-test.true), not_free_before (slice_bits c.args.self.now) c.args.count c.loop-start.start c.in-Some.one c.loop-start.invariant.1 last)

pub returns : goal.returns
returns g c =
    not_free (slice_bits c.args.self.now) c.args.count c.loop-start.start c.loop-start.invariant.1 (omega (arith, c.len-len.ensures, c.loop-start.invariant.0, c.loop-start-test.false))
