use Rattle.std.proofs.Common.{false}
use Rattle.bitvec_slice.specs.BitSlice.{slice_bits}
use Rattle.bitvec_slice.proofs.FindLemmas.{none_shows}
use Rattle.bitvec_slice.proofs.slice.bit_slice.BitSlice.all_ones.Goals as goal

pub returns : goal.returns
returns g c = none_shows (slice_bits c.args.self.now) false c.first_zero.result c.is_none.result c.is_none.ensures c.first_zero.ensures
