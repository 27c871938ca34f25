use Rattle.std.proofs.lemmas.List.FromFn.{length-map-range_with_len}
use Rattle.bitvec_slice.proofs.slice.bit_slice_mut.BitSliceMut.new_unchecked.Goals as goal

pub invariant_of-result-clause-many : goal.invariant_of-result-clause-many
invariant_of-result-clause-many g c = λ words. length-map-range_with_len _ 0 c.len.result
