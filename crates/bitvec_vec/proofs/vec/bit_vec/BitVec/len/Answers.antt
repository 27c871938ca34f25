use Rattle.std.proofs.Common.{map, sym}
use Rattle.bitvec_vec.proofs.FrontLemmas.{length-front}
use Rattle.bitvec_vec.proofs.vec.bit_vec.BitVec.len.Goals as goal

pub returns : goal.returns
returns g c = let vec = c.args.self.now in sym (length-front g.R.BitRegister.BITS g.O.BitAt.at_of vec.len (map g.R.BitRegister.number vec.words.items))
