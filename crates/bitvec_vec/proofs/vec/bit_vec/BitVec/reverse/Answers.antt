use Rattle.std.proofs.Common.{Bool, List, arith, reverse}
use Rattle.bitvec_vec.proofs.VecLemmas.{vec-put}
use Rattle.bitvec_vec.proofs.vec.bit_vec.BitVec.reverse.Goals as goal

pub reverse_front-requires-clause-room : goal.reverse_front-requires-clause-room
reverse_front-requires-clause-room g c = omega (arith, c.as_mut_slice.ensures.len, c.args.self.now.enough)

pub returns-clause-bits : goal.returns-clause-bits
returns-clause-bits g c =
    let vec = c.args.self.now in
    vec-put g.R.BitRegister.BITS g.O.BitAt.at_of g.R.BitRegister.number vec.len vec.words c.as_mut_slice.result.now c.reverse_front.new.words c.as_mut_slice.ensures.value c.as_mut_slice.ensures.len
    (λ (xs : List Bool). reverse xs) c.reverse_front.auto.words c.reverse_front.ensures
