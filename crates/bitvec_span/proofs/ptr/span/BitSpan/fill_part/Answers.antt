use Rattle.std.proofs.Common.{◌≡◌, ◌+◌, ◌<◌, if◌then◌else◌, map, length, ap, sym, ◌∙◌, arith}
use Rattle.std.proofs.lemmas.Int.{ints}
use Rattle.std.proofs.lemmas.List.{get_or-map, map-set}
use Rattle.std.specs.Prelude.{nat_abs, slice_index, slice_set}
use Rattle.std.specs.Int.{w64}
use mir.Val.{to_z, of_z}
use Rattle.bitvec_mem.specs.Digit.{digit}
use Rattle.bitvec_ptr.proofs.PlaceOrder.{bit_below}
use Rattle.bitvec_span.specs.BitSpan.{span_of}
use Rattle.bitvec_span.proofs.BecomesLemmas.{fits-numbers}
use Rattle.bitvec_span.proofs.FillWordLemmas.{part-fills}
use Rattle.bitvec_span.proofs.ptr.span.BitSpan.fill_part.Goals as goal

pub returns : goal.returns
returns g c =
    let width = g.R.BitRegister.BITS in
    let number = g.R.BitRegister.number in
    let span = span_of c.args.self in
    let memory = c.args.memory.now in
    let old = map number memory in
    let k = c.args.k in
    let bit = c.args.bit in
    let mask = number c.mask_among-mask.result in
    let was = c.index-memory-word.result in
    let word = c.filled.result in
    let in_head = bit_below width c.args.self.head g.met.R.BitRegister.width_at_least_8 c.args.self.in_word in
    let fits = fits-numbers width span number memory c.requires.fits in
    let word_is : to_z w64 (of_z w64 c.address.result) ≡ c.args.self.word = omega (arith, ints) in
    let same : nat_abs (to_z w64 (of_z w64 c.address.result)) + k ≡ nat_abs span.word + k = ap (λ z. nat_abs z + k) word_is in
    let inside : nat_abs span.word + k < length memory = omega (arith, c.requires.fits.1, c.requires.met) in
    let read : number was ≡ slice_index old (nat_abs span.word + k) =
    ap number c.index-memory-word.is ∙ sym (get_or-map number memory _ was 0 (omega (arith, same, inside))) ∙ ap (slice_index old) same in
    part-fills width g.O.BitAt.at_of span bit old k _ mask (number word) g.met.O.BitOrder.one_to_one in_head fits c.requires.met
    c.mask_among-mask.ensures
    (map-set number memory _ word ∙ ap (λ n. slice_set old n (number word)) same)
    (λ p small. c.filled.ensures p small ∙ ap (λ w. if digit mask p then bit else digit w p) read)
