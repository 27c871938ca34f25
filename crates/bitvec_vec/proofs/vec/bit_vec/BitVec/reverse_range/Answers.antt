use Rattle.std.proofs.Common.{length, map, arith}
use Rattle.bitvec_vec.proofs.FrontLemmas.{length-front}
use Rattle.bitvec_vec.proofs.vec.bit_vec.BitVec.reverse_range.Goals as goal

pub reverse_part-requires-clause-inside : goal.reverse_part-requires-clause-inside
reverse_part-requires-clause-inside g c =
    let vec = c.args.self.now in
    omega (arith, c.requires.inside, length-front g.R.BitRegister.BITS g.O.BitAt.at_of vec.len (map g.R.BitRegister.number vec.words.items))
