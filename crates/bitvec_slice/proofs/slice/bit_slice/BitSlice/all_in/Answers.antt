use Rattle.std.proofs.Common.{false, arith}
use Rattle.bitvec_slice.specs.BitSlice.{slice_bits}
use Rattle.bitvec_slice.proofs.NextLemmas.{none_between_shows, past_shows}
use Rattle.bitvec_slice.proofs.slice.bit_slice.BitSlice.all_in.Goals as goal

pub returns-then-len-to : goal.returns-then-len-to
returns-then-len-to g c = past_shows (slice_bits c.args.self.now) c.args.from c.args.to (omega (arith, c.if-len-to.true, c.len.ensures.list))

pub returns : goal.returns
returns g c = none_between_shows (slice_bits c.args.self.now) false c.args.from c.args.to c.first_between.result c.is_none.result c.is_none.ensures c.first_between.ensures
