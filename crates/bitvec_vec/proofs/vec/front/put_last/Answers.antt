use Rattle.std.proofs.Common.{◌≡◌, ◌+◌, ◌-◌, ◌*◌, ◌/◌, ◌%◌, ◌<◌, length, map, refl, sym, ap, ◌∙◌, arith}
use Rattle.std.specs.Prelude.{slice_index}
use Rattle.std.proofs.Math.ListN.{length-set}
use Rattle.std.proofs.lemmas.List.{length-map, map-set, get_or-map}
use Rattle.std.proofs.lemmas.Nat.{div-add-mod', mod_below}
use Rattle.bitvec.specs.Memory.{memory_bits}
use Rattle.bitvec.specs.Span.{front_span}
use Rattle.bitvec.proofs.BecomesLemmas.{bit-becomes}
use Rattle.bitvec.proofs.BitLemmas.{write_is}
use Rattle.bitvec_vec.proofs.LastLemmas.{last-word}
use Rattle.bitvec_vec.proofs.VecLemmas.{front-fits}
use Rattle.bitvec_vec.proofs.vec.front.put_last.Goals as goal

pub returns : goal.returns
returns g c =
    let width = g.R.BitRegister.BITS in
    let at = g.O.BitAt.at_of in
    let number = g.R.BitRegister.number in
    let memory = c.args.words.now in
    let words = map number memory in
    let len = c.args.len in
    let last = length memory - 1 in
    let r = c.index-words-last.result in
    let index = c.new_unchecked-index.result in
    let v = c.with_bit.result in
    let some : 0 < width = omega (arith, g.met.R.BitRegister.width_at_least_8) in
    let is : c.from.result ≡ width = c.from.ensures ∙ c.BITS.ensures in
    let is_last = last-word width len (length memory) c.requires in
    let inside : last < length memory = omega (arith, is_last.0) in
    let many : length words ≡ length memory = length-map memory number in
    let rest : len % c.from.result ≡ len % width = ap (λ n. len % n) is in
    let small : index < width = omega (arith, c.new_unchecked-index.ensures, rest, mod_below len width some) in
    let word : number r ≡ slice_index words last = ap number c.index-words-last.is ∙ sym (get_or-map number memory last r 0 inside) in
    let row : last * width ≡ len / width * width = ap (λ n. n * width) is_last.1 in
    let here : last * width + index ≡ 0 * width + 0 + len = omega (arith, row, rest, c.new_unchecked-index.ensures, div-add-mod' len width) in
    let new = map-set number memory last v in
    (bit-becomes width at (front_span (len + 1)) words _ some (front-fits width (len + 1) (length words) (front_span (len + 1)) refl (omega (arith, many, c.requires))) len _ c.args.bit (omega arith) here
    (ap length new ∙ length-set words last (number v))
    (ap (memory_bits width at) new ∙ write_is width at words last index (number v) c.args.bit (omega (arith, inside, many)) small (λ j h. rw word at c.with_bit.ensures j h))).list
