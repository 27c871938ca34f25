use Rattle.std.proofs.Common.{◌-◌, ◌∙◌, Bool, List, map, ap, arith}
use Rattle.std.specs.Prelude.{slice_range}
use Rattle.bitvec_slice.specs.Numbers.{number_be, digits_be}
use Rattle.bitvec_slice.specs.Ranges.{with_range}
use Rattle.bitvec_vec.proofs.FrontLemmas.{length-front}
use Rattle.bitvec_vec.proofs.VecLemmas.{vec-put, vec-left}
use Rattle.bitvec_vec.proofs.vec.bit_vec.BitVec.store_digits_be.Goals as goal

pub store_front_be-requires-clause-room : goal.store_front_be-requires-clause-room
store_front_be-requires-clause-room g c = omega (arith, c.as_mut_slice.ensures.len, c.args.self.now.enough)

pub store_front_be-requires-clause-inside : goal.store_front_be-requires-clause-inside
store_front_be-requires-clause-inside g c =
    let vec = c.args.self.now in
    omega (arith, c.requires.inside, length-front g.R.BitRegister.BITS g.O.BitAt.at_of vec.len (map g.R.BitRegister.number vec.words.items))

pub returns-clause-bits : goal.returns-clause-bits
returns-clause-bits g c =
    let vec = c.args.self.now in
    vec-put g.R.BitRegister.BITS g.O.BitAt.at_of g.R.BitRegister.number vec.len vec.words c.as_mut_slice.result.now c.store_front_be.new.words c.as_mut_slice.ensures.value c.as_mut_slice.ensures.len
    (λ (xs : List Bool). with_range xs c.args.from c.args.to (digits_be (c.args.to - c.args.from) (g.N.BitRegister.number c.args.value))) c.store_front_be.auto.words c.store_front_be.ensures.bits

pub returns-clause-loaded : goal.returns-clause-loaded
returns-clause-loaded g c =
    let vec = c.args.self.now in
    ap (λ (xs : List Bool). number_be (slice_range xs c.args.from c.args.to))
    (vec-left g.R.BitRegister.BITS g.O.BitAt.at_of g.R.BitRegister.number vec.len vec.words c.as_mut_slice.result.now c.store_front_be.new.words c.as_mut_slice.ensures.value c.as_mut_slice.ensures.len c.store_front_be.auto.words)
    ∙ c.store_front_be.ensures.loaded
