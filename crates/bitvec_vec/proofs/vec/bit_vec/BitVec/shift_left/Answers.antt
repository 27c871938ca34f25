use Rattle.std.proofs.Common.{Bool, List, map, arith, ◌++◌, drop, replicate, false}
use Rattle.bitvec_vec.proofs.FrontLemmas.{length-front}
use Rattle.bitvec_vec.proofs.VecLemmas.{vec-put}
use Rattle.bitvec_vec.proofs.vec.bit_vec.BitVec.shift_left.Goals as goal

pub shift_front_left-requires-clause-room : goal.shift_front_left-requires-clause-room
shift_front_left-requires-clause-room g c = omega (arith, c.as_mut_slice.ensures.len, c.args.self.now.enough)

pub shift_front_left-requires-clause-inside : goal.shift_front_left-requires-clause-inside
shift_front_left-requires-clause-inside g c =
    let vec = c.args.self.now in
    omega (arith, c.requires, length-front g.R.BitRegister.BITS g.O.BitAt.at_of vec.len (map g.R.BitRegister.number vec.words.items))

pub returns-clause-bits : goal.returns-clause-bits
returns-clause-bits g c =
    let vec = c.args.self.now in
    vec-put g.R.BitRegister.BITS g.O.BitAt.at_of g.R.BitRegister.number vec.len vec.words c.as_mut_slice.result.now c.shift_front_left.new.words c.as_mut_slice.ensures.value c.as_mut_slice.ensures.len
    (λ (xs : List Bool). drop c.args.by xs ++ replicate c.args.by false) c.shift_front_left.auto.words c.shift_front_left.ensures
