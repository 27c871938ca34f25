use Rattle.std.proofs.Common.{Bool, List, map, arith, ◌++◌, take, drop}
use Rattle.bitvec_vec.proofs.FrontLemmas.{length-front}
use Rattle.bitvec_vec.proofs.VecLemmas.{vec-put}
use Rattle.bitvec_vec.proofs.vec.bit_vec.BitVec.rotate_left.Goals as goal

pub rotate_front-requires-clause-room : goal.rotate_front-requires-clause-room
rotate_front-requires-clause-room g c = omega (arith, c.as_mut_slice.ensures.len, c.args.self.now.enough)

pub rotate_front-requires-clause-inside : goal.rotate_front-requires-clause-inside
rotate_front-requires-clause-inside g c =
    let vec = c.args.self.now in
    omega (arith, c.requires, length-front g.R.BitRegister.BITS g.O.BitAt.at_of vec.len (map g.R.BitRegister.number vec.words.items))

pub returns-clause-bits : goal.returns-clause-bits
returns-clause-bits g c =
    let vec = c.args.self.now in
    vec-put g.R.BitRegister.BITS g.O.BitAt.at_of g.R.BitRegister.number vec.len vec.words c.as_mut_slice.result.now c.rotate_front.new.words c.as_mut_slice.ensures.value c.as_mut_slice.ensures.len
    (λ (xs : List Bool). drop c.args.by xs ++ take c.args.by xs) c.rotate_front.auto.words c.rotate_front.ensures
