use Rattle.std.proofs.Common.{◌-◌, ◌∙◌, Bool, List, map, take, ap, arith}
use Rattle.bitvec_vec.specs.BitVec.{vec_bits}
use Rattle.bitvec_vec.proofs.FrontLemmas.{length-front}
use Rattle.bitvec_vec.proofs.GrowthLemmas.{swap-removed}
use Rattle.bitvec_vec.proofs.vec.bit_vec.BitVec.swap_remove.Goals as goal

pub swap-requires-clause-second : goal.swap-requires-clause-second
swap-requires-clause-second g c =
    let width = g.R.BitRegister.BITS in
    let at = g.O.BitAt.at_of in
    let number = g.R.BitRegister.number in
    let vec = c.args.self.now in
    omega (arith, c.requires, length-front width at vec.len (map number vec.words.items))

pub returns-clause-bits : goal.returns-clause-bits
returns-clause-bits g c =
    let width = g.R.BitRegister.BITS in
    let at = g.O.BitAt.at_of in
    let number = g.R.BitRegister.number in
    let vec = c.args.self.now in
    let long = length-front width at vec.len (map number vec.words.items) in
    c.truncate.ensures.bits
    ∙ ap (λ (us : List Bool). take (vec.len - 1) us) c.swap.ensures.bits
    ∙ swap-removed (vec_bits vec) vec.len long c.args.i (omega (arith, c.requires, long))
