use Rattle.std.proofs.Common.{Bool, List, map, arith}
use Rattle.bitvec.specs.Memory.{zip_with}
use Rattle.bitvec_slice.specs.BitSlice.{slice_memory, slice_bits}
use Rattle.bitvec_vec.proofs.FrontLemmas.{length-front}
use Rattle.bitvec_vec.proofs.VecLemmas.{vec-put}
use Rattle.bitvec_vec.proofs.vec.bit_vec.BitVec.combine_from.Goals as goal

pub combine_slice-requires-clause-room : goal.combine_slice-requires-clause-room
combine_slice-requires-clause-room g c = omega (arith, c.as_mut_slice.ensures.len, c.args.self.now.enough)

pub combine_slice-requires-clause-same : goal.combine_slice-requires-clause-same
combine_slice-requires-clause-same g c =
    let vec = c.args.self.now in
    let many = c.args.source.many (map g.R2.BitRegister.number (slice_memory c.args.source)) in
    omega (arith, c.requires, many, length-front g.R.BitRegister.BITS g.O.BitAt.at_of vec.len (map g.R.BitRegister.number vec.words.items))

pub returns-clause-bits : goal.returns-clause-bits
returns-clause-bits g c =
    let vec = c.args.self.now in
    vec-put g.R.BitRegister.BITS g.O.BitAt.at_of g.R.BitRegister.number vec.len vec.words c.as_mut_slice.result.now c.combine_slice.new.words c.as_mut_slice.ensures.value c.as_mut_slice.ensures.len
    (λ (xs : List Bool). zip_with g.C.Combine.of xs (slice_bits c.args.source)) c.combine_slice.auto.words c.combine_slice.ensures
