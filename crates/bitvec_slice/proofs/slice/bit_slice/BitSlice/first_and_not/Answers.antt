use Rattle.bitvec_slice.proofs.slice.bit_slice.BitSlice.first_and_not.Goals as goal

pub returns : goal.returns
returns g c = c.first_with.ensures
