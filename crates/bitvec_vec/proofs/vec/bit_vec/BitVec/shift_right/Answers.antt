use Rattle.std.proofs.Common.{Bool, List, map, arith, ◌++◌, ◌-◌, length, take, replicate, false}
use Rattle.bitvec_vec.proofs.FrontLemmas.{length-front}
use Rattle.bitvec_vec.proofs.VecLemmas.{vec-put}
use Rattle.bitvec_vec.proofs.vec.bit_vec.BitVec.shift_right.Goals as goal

pub shift_front_right-requires-clause-room : goal.shift_front_right-requires-clause-room
shift_front_right-requires-clause-room g c = omega (arith, c.as_mut_slice.ensures.len, c.args.self.now.enough)

pub shift_front_right-requires-clause-inside : goal.shift_front_right-requires-clause-inside
shift_front_right-requires-clause-inside g c =
    let vec = c.args.self.now in
    omega (arith, c.requires, length-front g.R.BitRegister.BITS g.O.BitAt.at_of vec.len (map g.R.BitRegister.number vec.words.items))

pub returns-clause-bits : goal.returns-clause-bits
returns-clause-bits g c =
    let vec = c.args.self.now in
    vec-put g.R.BitRegister.BITS g.O.BitAt.at_of g.R.BitRegister.number vec.len vec.words c.as_mut_slice.result.now c.shift_front_right.new.words c.as_mut_slice.ensures.value c.as_mut_slice.ensures.len
    (λ (xs : List Bool). replicate c.args.by false ++ take (length xs - c.args.by) xs) c.shift_front_right.auto.words c.shift_front_right.ensures
