use Rattle.std.proofs.Common.{◌∙◌, map, sym, ap}
use Rattle.bitvec_vec.specs.Front.{front_bits, words_for}
use Rattle.bitvec_vec.proofs.FrontLemmas.{length-front}
use Rattle.bitvec_vec.proofs.vec.bit_vec.BitVec.into_words.Goals as goal

pub returns-clause-words : goal.returns-clause-words
returns-clause-words g c =
    let width = g.R.BitRegister.BITS in
    let at = g.O.BitAt.at_of in
    let number = g.R.BitRegister.number in
    let vec = c.args.self in
    vec.enough ∙ ap (words_for width) (sym (length-front width at vec.len (map number vec.words.items)))

pub returns-clause-bits : goal.returns-clause-bits
returns-clause-bits g c =
    let width = g.R.BitRegister.BITS in
    let at = g.O.BitAt.at_of in
    let number = g.R.BitRegister.number in
    let vec = c.args.self in
    let words = map number vec.words.items in
    ap (λ n. front_bits width at n words) (length-front width at vec.len words)
