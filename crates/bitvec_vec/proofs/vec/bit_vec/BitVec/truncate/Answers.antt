use Rattle.std.proofs.Common.{◌<◌, ◌∙◌, map, take, sym, ap, arith}
use Rattle.std.proofs.lemmas.List.{take_all}
use Rattle.bitvec_vec.specs.BitVec.{vec_bits}
use Rattle.bitvec_vec.proofs.FrontLemmas.{length-front, words_fewer}
use Rattle.bitvec_vec.proofs.VecLemmas.{front-cut}
use Rattle.bitvec_vec.proofs.vec.bit_vec.BitVec.truncate.Goals as goal

pub returns-then-self-len-clause-bits : goal.returns-then-self-len-clause-bits
returns-then-self-len-clause-bits g c =
    let width = g.R.BitRegister.BITS in
    let at = g.O.BitAt.at_of in
    let number = g.R.BitRegister.number in
    let vec = c.args.self.now in
    sym (take_all c.args.len (vec_bits vec) (omega (arith, c.if-self-len.true, length-front width at vec.len (map number vec.words.items))))

pub invariant_of-self : goal.invariant_of-self
invariant_of-self g c =
    let width = g.R.BitRegister.BITS in
    let at = g.O.BitAt.at_of in
    let number = g.R.BitRegister.number in
    let vec = c.args.self.now in
    let fewer = words_fewer width c.args.len vec.len (omega (arith, g.met.R.BitRegister.width_at_least_8)) (omega (arith, c.if-self-len.false)) in
    record {
      short = omega (arith, c.if-self-len.false, vec.short);
      enough = omega (arith, c.truncate.ensures.len, c.words_of_bits.ensures, vec.enough, fewer);
    }

pub returns-clause-bits : goal.returns-clause-bits
returns-clause-bits g c =
    let width = g.R.BitRegister.BITS in
    let at = g.O.BitAt.at_of in
    let number = g.R.BitRegister.number in
    let vec = c.args.self.now in
    let some : 0 < width = omega (arith, g.met.R.BitRegister.width_at_least_8) in
    front-cut width at number c.args.len vec.len vec.words.items c.truncate.new.self.items some (omega (arith, c.if-self-len.false))
    (c.truncate.ensures.items ∙ ap (λ n. take n vec.words.items) c.words_of_bits.ensures)
