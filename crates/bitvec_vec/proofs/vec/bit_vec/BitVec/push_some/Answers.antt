use Rattle.std.proofs.Common.{◌≡◌, ◌%◌, ◌++◌, ◌∙◌, length, map, take, List, Bool, sym, ap, length-take-le}
use Rattle.bitvec_vec.specs.BitVec.{vec_bits}
use Rattle.bitvec_vec.proofs.BoolLemmas.{word-list}
use Rattle.bitvec_vec.proofs.FrontLemmas.{length-front}
use Rattle.bitvec_vec.proofs.vec.bit_vec.BitVec.push_some.Goals as goal

pub push_word-requires-clause-whole : goal.push_word-requires-clause-whole
push_word-requires-clause-whole g c =
    let width = g.R.BitRegister.BITS in
    let at = g.O.BitAt.at_of in
    let number = g.R.BitRegister.number in
    let vec = c.args.self.now in
    let is : c.from-width.result ≡ width = c.from-width.ensures ∙ c.BITS.ensures in
    ap (λ n. n % width) (length-front width at vec.len (map number vec.words.items)) ∙ ap (λ n. vec.len % n) (sym is) ∙ c.if-self-width-ne0.false

pub returns-clause-bits : goal.returns-clause-bits
returns-clause-bits g c =
    let width = g.R.BitRegister.BITS in
    let at = g.O.BitAt.at_of in
    let number = g.R.BitRegister.number in
    let bs = take c.from-width.result c.args.bits.now in
    let long : length bs ≡ width = length-take-le c.from-width.result c.args.bits.now c.if-bits-width.false ∙ c.from-width.ensures ∙ c.BITS.ensures in
    c.push_word.ensures.bits
    ∙ ap (λ (us : List Bool). vec_bits c.args.self.now ++ us) (word-list width at bs (number c.word_of_bools.result) g.met.O.BitOrder.one_to_one long c.word_of_bools.ensures)
