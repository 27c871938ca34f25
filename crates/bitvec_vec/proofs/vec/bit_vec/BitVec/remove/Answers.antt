use Rattle.std.proofs.Common.{◌-◌, ◌∙◌, Bool, List, map, take, ap, arith}
use Rattle.bitvec_vec.specs.BitVec.{vec_bits}
use Rattle.bitvec_vec.proofs.FrontLemmas.{length-front}
use Rattle.bitvec_vec.proofs.GrowthLemmas.{removed}
use Rattle.bitvec_vec.proofs.vec.bit_vec.BitVec.remove.Goals as goal

pub copy_within-requires-clause-ordered : goal.copy_within-requires-clause-ordered
copy_within-requires-clause-ordered g c =
    let width = g.R.BitRegister.BITS in
    let at = g.O.BitAt.at_of in
    let number = g.R.BitRegister.number in
    let vec = c.args.self.now in
    omega (arith, c.requires, length-front width at vec.len (map number vec.words.items))

pub copy_within-requires-clause-source_inside : goal.copy_within-requires-clause-source_inside
copy_within-requires-clause-source_inside g c =
    let width = g.R.BitRegister.BITS in
    let at = g.O.BitAt.at_of in
    let number = g.R.BitRegister.number in
    let vec = c.args.self.now in
    omega (arith, length-front width at vec.len (map number vec.words.items))

pub copy_within-requires-clause-target_inside : goal.copy_within-requires-clause-target_inside
copy_within-requires-clause-target_inside g c =
    let width = g.R.BitRegister.BITS in
    let at = g.O.BitAt.at_of in
    let number = g.R.BitRegister.number in
    let vec = c.args.self.now in
    omega (arith, c.requires, length-front width at vec.len (map number vec.words.items))

pub returns-clause-bits : goal.returns-clause-bits
returns-clause-bits g c =
    let width = g.R.BitRegister.BITS in
    let at = g.O.BitAt.at_of in
    let number = g.R.BitRegister.number in
    let vec = c.args.self.now in
    let long = length-front width at vec.len (map number vec.words.items) in
    c.truncate.ensures.bits
    ∙ ap (λ (us : List Bool). take (vec.len - 1) us) c.copy_within.ensures.bits
    ∙ removed (vec_bits vec) vec.len long c.args.i (omega (arith, c.requires, long))

pub overflow_add-i : goal.overflow_add-i
overflow_add-i g c =
    let width = g.R.BitRegister.BITS in
    let at = g.O.BitAt.at_of in
    let number = g.R.BitRegister.number in
    let vec = c.args.self.now in
    omega (arith, c.requires, vec.short, length-front width at vec.len (map number vec.words.items))
