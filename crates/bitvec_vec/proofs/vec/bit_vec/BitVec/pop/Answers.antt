use Rattle.std.proofs.Common.{◌-◌, ◌∙◌, Bool, List, [], ◌∷◌, ◌++◌, map, sym, ap, arith}
use Rattle.std.proofs.lemmas.List.{nil_from_length}
use Rattle.bitvec.specs.Span.{element}
use Rattle.bitvec_vec.specs.BitVec.{vec_bits}
use Rattle.bitvec_vec.proofs.FrontLemmas.{length-front}
use Rattle.bitvec_vec.proofs.VecLemmas.{popped}
use Rattle.bitvec_vec.proofs.vec.bit_vec.BitVec.pop.Goals as goal

pub returns-then-len-eq0-clause-bits : goal.returns-then-len-eq0-clause-bits
returns-then-len-eq0-clause-bits g c =
    let width = g.R.BitRegister.BITS in
    let at = g.O.BitAt.at_of in
    let number = g.R.BitRegister.number in
    let vec = c.args.self.now in
    let none = nil_from_length (vec_bits vec) (length-front width at vec.len (map number vec.words.items) ∙ c.if-len-eq0.true) in
    (none, none)

pub get_unchecked-last-requires : goal.get_unchecked-last-requires
get_unchecked-last-requires g c =
    let width = g.R.BitRegister.BITS in
    let at = g.O.BitAt.at_of in
    let number = g.R.BitRegister.number in
    let vec = c.args.self.now in
    omega (arith, c.if-len-eq0.false, length-front width at vec.len (map number vec.words.items))

pub returns-clause-bits : goal.returns-clause-bits
returns-clause-bits g c =
    let width = g.R.BitRegister.BITS in
    let at = g.O.BitAt.at_of in
    let number = g.R.BitRegister.number in
    let vec = c.args.self.now in
    let xs = vec_bits vec in
    popped xs vec.len (length-front width at vec.len (map number vec.words.items)) (omega (arith, c.if-len-eq0.false))
    ∙ ap (λ (ys : List Bool). ys ++ element xs (vec.len - 1) ∷ []) (sym c.truncate.ensures.bits)
    ∙ ap (λ b. vec_bits c.truncate.new.self ++ b ∷ []) (sym c.get_unchecked-last.ensures)
