use Rattle.std.proofs.Common.{◌≡◌, ◌<◌, ◌≤◌, ◌+◌, ◌*◌, ◌%◌, ◌∙◌, List, [], ◌∷◌, length, map, sym, ap, arith}
use Rattle.std.specs.Prelude.{vec_len, vec_capacity, IsOk}
use Rattle.std.proofs.lemmas.List.{length-map, map-append}
use Rattle.bitvec.specs.Place.{region_max_bits}
use Rattle.bitvec_vec.specs.BitVec.{vec_bits}
use Rattle.bitvec_vec.specs.Front.{front_bits, words_for}
use Rattle.bitvec_vec.proofs.BoolLemmas.{done, word-fits, front-word}
use Rattle.bitvec_vec.proofs.FrontLemmas.{length-front, words_are, words-full}
use Rattle.bitvec_vec.proofs.vec.bit_vec.BitVec.push_word.Goals as goal

pub invariant_of-self : goal.invariant_of-self
invariant_of-self g c =
    let width = g.R.BitRegister.BITS in
    let at = g.O.BitAt.at_of in
    let number = g.R.BitRegister.number in
    let vec = c.args.self.now in
    let n = vec_len vec.words in
    let some : 0 < width = omega (arith, g.met.R.BitRegister.width_at_least_8) in
    let long = length-front width at vec.len (map number vec.words.items) in
    let whole : vec.len % width ≡ 0 = ap (λ m. m % width) (sym long) ∙ c.requires.whole in
    let full : n * width ≡ vec.len = ap (λ m. m * width) vec.enough ∙ (words-full width vec.len some whole).0 in
    let is : c.from.result ≡ width = c.from.ensures ∙ c.BITS.ensures in
    let ok : IsOk c.push.result = c.push.ensures.succeeds (word-fits width n vec.len (vec_capacity vec.words) region_max_bits some full (omega (arith, c.requires.room, long))) in
    record {
      short = omega (arith, c.requires.room, long, is);
      enough = c.push.ensures.len ∙ done c.push.result ok (n + 1) n
          ∙ sym (words_are width (vec.len + c.from.result) (n + 1) some (omega (arith, full, is)) (omega (arith, full, is, some)));
    }

pub returns-clause-bits : goal.returns-clause-bits
returns-clause-bits g c =
    let width = g.R.BitRegister.BITS in
    let at = g.O.BitAt.at_of in
    let number = g.R.BitRegister.number in
    let vec = c.args.self.now in
    let n = vec_len vec.words in
    let items = vec.words.items in
    let some : 0 < width = omega (arith, g.met.R.BitRegister.width_at_least_8) in
    let long = length-front width at vec.len (map number items) in
    let whole : vec.len % width ≡ 0 = ap (λ m. m % width) (sym long) ∙ c.requires.whole in
    let full : n * width ≡ vec.len = ap (λ m. m * width) vec.enough ∙ (words-full width vec.len some whole).0 in
    let is : c.from.result ≡ width = c.from.ensures ∙ c.BITS.ensures in
    let ok : IsOk c.push.result = c.push.ensures.succeeds (word-fits width n vec.len (vec_capacity vec.words) region_max_bits some full (omega (arith, c.requires.room, long))) in
    let many : length (map number items) ≡ n = length-map items number ∙ sym vec.words.ok.0 in
    ap (λ m. front_bits width at (vec.len + m) (map number c.push.new.self.items)) is
    ∙ ap (λ (us : List g.row.R.Denot). front_bits width at (vec.len + width) (map number us)) (c.push.ensures.items ∙ done c.push.result ok _ _)
    ∙ ap (front_bits width at (vec.len + width)) (map-append number items (c.args.word ∷ []))
    ∙ front-word width at vec.len (map number items) (number c.args.word) some (ap (λ m. m * width) many ∙ full)
