use Rattle.std.proofs.Common.{Bool, List, length, map, sym, ap, ◌∙◌}
use Rattle.std.proofs.lemmas.Bool.{eqb-true, eq-eqb}
use Rattle.std.proofs.lemmas.List.{nil_from_length}
use Rattle.bitvec_vec.specs.BitVec.{vec_bits}
use Rattle.bitvec_vec.proofs.FrontLemmas.{length-front}
use Rattle.bitvec_vec.proofs.vec.bit_vec.BitVec.is_empty.Goals as goal

pub returns : goal.returns
returns g c =
    let width = g.R.BitRegister.BITS in
    let at = g.O.BitAt.at_of in
    let number = g.R.BitRegister.number in
    let vec = c.args.self.now in
    let long = length-front width at vec.len (map number vec.words.items) in
    (λ h. nil_from_length (vec_bits vec) (long ∙ eqb-true vec.len 0 h), λ e. eq-eqb vec.len 0 (sym long ∙ ap (λ (xs : List Bool). length xs) e))
