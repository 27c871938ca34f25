use Rattle.std.proofs.Common.{◌≡◌, ◌∙◌, false, Bool, List, length, map, replicate, sym, ap, subst}
use Rattle.std.proofs.lemmas.List.{length-replicate}
use Rattle.bitvec_slice.specs.TextError.{IsRefusal}
use Rattle.bitvec_vec.proofs.FrontLemmas.{length-front}
use Rattle.bitvec_vec.proofs.vec.bit_vec.BitVec.from_text.Goals as goal

pub returns-clause-refused : goal.returns-clause-refused
returns-clause-refused g c =
    let vec = c.in-Ok.vec in
    let text = c.args.text.now in
    let so = subst (λ e. IsRefusal vec.len text e) c.in-Err-OtherLength.field-0-is c.in-Err-OtherLength.ensures.refused in
    let many : vec.len ≡ length text =
    sym (length-front g.R.BitRegister.BITS g.O.BitAt.at_of vec.len (map g.R.BitRegister.number vec.words.items))
    ∙ ap (λ (xs : List Bool). length xs) c.in-Ok.ensures.bits ∙ length-replicate (length text) false in
    absurd (so.1 (so.0 ∙ sym many))
