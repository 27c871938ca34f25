use Rattle.std.proofs.Common.{◌≡◌, ◌<◌, map, sym, ap, ◌∙◌, arith}
use Rattle.std.specs.Prelude.{slice_index}
use Rattle.std.proofs.lemmas.List.{get_or-map}
use Rattle.bitvec_mem.specs.Digit.{digit}
use Rattle.bitvec_ptr.proofs.BitLemmas.{bit_of-word}
use Rattle.bitvec_ptr.proofs.ptr.cursor.Cursor.read.Goals as goal

pub returns : goal.returns
returns g c =
    let width = g.R.BitRegister.BITS in
    let at = g.O.BitAt.at_of in
    let number = g.R.BitRegister.number in
    let xs = c.args.memory.now in
    let w = c.args.self.word in
    let r = c.index-memory-self.result in
    let below : c.args.self.bit < width = omega (arith, g.met.R.BitRegister.width_at_least_8, c.args.self.in_word) in
    let word : number r ≡ slice_index (map number xs) w = ap number c.index-memory-self.is ∙ sym (get_or-map number xs w r 0 c.requires) in
    c.bit_at.ensures ∙ ap (λ i. digit (number r) (at i)) c.new_unchecked.ensures ∙ ap (λ n. digit n (at c.args.self.bit)) word
    ∙ sym (bit_of-word width at (map number xs) w c.args.self.bit below)
