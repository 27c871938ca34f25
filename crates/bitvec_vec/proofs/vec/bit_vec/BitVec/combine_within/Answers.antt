use Rattle.std.proofs.Common.{length, map, arith}
use Rattle.bitvec_vec.proofs.FrontLemmas.{length-front}
use Rattle.bitvec_vec.proofs.vec.bit_vec.BitVec.combine_within.Goals as goal

pub combine_within-requires-clause-source_inside : goal.combine_within-requires-clause-source_inside
combine_within-requires-clause-source_inside g c =
    let vec = c.args.self.now in
    omega (arith, c.requires, c.span_of_front-span.ensures.len, length-front g.R.BitRegister.BITS g.O.BitAt.at_of vec.len (map g.R.BitRegister.number vec.words.items))

pub combine_within-requires-clause-target_inside : goal.combine_within-requires-clause-target_inside
combine_within-requires-clause-target_inside g c =
    let vec = c.args.self.now in
    omega (arith, c.requires, c.span_of_front-span.ensures.len, length-front g.R.BitRegister.BITS g.O.BitAt.at_of vec.len (map g.R.BitRegister.number vec.words.items))
