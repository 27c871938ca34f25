use Rattle.std.proofs.Common.{false}
use Rattle.bitvec_slice.specs.BitSlice.{slice_bits}
use Rattle.bitvec_slice.proofs.FindLemmas.{first_of_all}
use Rattle.bitvec_slice.proofs.slice.bit_slice.BitSlice.first_zero.Goals as goal

pub returns : goal.returns
returns g c = first_of_all (slice_bits c.args.self.now) false c.len.result c.first_between.result c.len.ensures.list c.first_between.ensures
