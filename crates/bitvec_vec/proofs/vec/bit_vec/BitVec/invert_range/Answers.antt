use Rattle.std.proofs.Common.{length, map, arith}
use Rattle.bitvec.specs.BitSpan.{span_of}
use Rattle.bitvec_vec.proofs.FrontLemmas.{length-front}
use Rattle.bitvec_vec.proofs.VecLemmas.{front-fits}
use Rattle.bitvec_vec.proofs.vec.bit_vec.BitVec.invert_range.Goals as goal

pub range-requires-clause-inside : goal.range-requires-clause-inside
range-requires-clause-inside g c =
    let vec = c.args.self.now in
    omega (arith, c.requires.inside, c.span_of_front-span.ensures.len, length-front g.R.BitRegister.BITS g.O.BitAt.at_of vec.len (map g.R.BitRegister.number vec.words.items))

pub invert-requires : goal.invert-requires
invert-requires g c =
    let vec = c.args.self.now in
    c.range.ensures.fit (length c.as_mut_slice.result.now) (front-fits g.R.BitRegister.BITS vec.len (length c.as_mut_slice.result.now) (span_of c.span_of_front-span.result) c.span_of_front-span.ensures.span (omega (arith, c.as_mut_slice.ensures.len, vec.enough)))
