use Rattle.std.proofs.Common.{length, map, arith}
use Rattle.bitvec_vec.proofs.FrontLemmas.{length-front}
use Rattle.bitvec_vec.proofs.vec.bit_vec.BitVec.combine_from_range.Goals as goal

pub combine_part-requires-clause-inside : goal.combine_part-requires-clause-inside
combine_part-requires-clause-inside g c =
    let vec = c.args.self.now in
    omega (arith, c.requires, length-front g.R.BitRegister.BITS g.O.BitAt.at_of vec.len (map g.R.BitRegister.number vec.words.items))
