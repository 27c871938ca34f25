use Rattle.bitvec_slice.proofs.slice.bit_slice.BitSlice.count_or.Goals as goal

pub returns : goal.returns
returns g c = c.count_with.ensures
