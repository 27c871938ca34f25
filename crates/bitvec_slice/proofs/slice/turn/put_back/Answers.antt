use Rattle.std.proofs.Common.{◌≡◌, ◌+◌, ◌<◌, ◌≤◌, if◌then◌else◌, length, map, sym, ap, subst, ◌∙◌, arith}
use Rattle.std.specs.Prelude.{nat_abs, slice_set}
use Rattle.std.specs.Int.{w64}
use Rattle.std.proofs.lemmas.Int.{ints}
use Rattle.std.proofs.lemmas.List.{length-map, map-set}
use mir.Val.{to_z, of_z}
use Rattle.bitvec.specs.Digit.{digit}
use Rattle.bitvec.specs.Order.{IsMaskOf}
use Rattle.bitvec.specs.BitSpan.{span_of}
use Rattle.bitvec.specs.Parts.{Part, part_head, part_tail}
use Rattle.bitvec_slice.proofs.SpanTurns.{put-back, read-word}
use Rattle.bitvec_slice.proofs.slice.turn.put_back.Goals as goal

pub returns : goal.returns
returns g c =
    let width = g.R.BitRegister.BITS in
    let at = g.O.BitAt.at_of in
    let number = g.R.BitRegister.number in
    let span = span_of c.args.span in
    let k = c.args.k in
    let memory = c.args.memory.now in
    let old = map number memory in
    let mask = number c.into_inner-mask.result in
    let saved = number c.args.saved in
    let head_at = part_head span.head k in
    let tail_at = part_tail width span.head span.len k in
    let in_head : span.head < width = omega (arith, c.args.span.in_word, g.met.R.BitRegister.width_at_least_8) in
    let same : to_z w64 (of_z w64 c.address.result) ≡ c.args.span.word = omega (arith, ints) in
    let inside : nat_abs span.word + k < length memory = omega (arith, c.requires.fits.1, c.requires.met) in
    let head : c.part.result.head ≡ head_at = ap (λ (p : Part). p.head) c.part.ensures.part in
    let tail : c.part.result.tail ≡ tail_at = ap (λ (p : Part). p.tail) c.part.ensures.part in
    let masked = subst (λ m. IsMaskOf width at head_at tail_at m) (sym c.into_inner-mask.ensures.value)
    (subst (λ h. IsMaskOf width at h tail_at c.mask.result) head
    (subst (λ t. IsMaskOf width at c.part.result.head t c.mask.result) tail c.mask.ensures)) in
    let read = read-word number memory _ (nat_abs span.word + k) c.index-memory-word.result (ap (λ z. nat_abs z + k) same) inside c.index-memory-word.is in
    put-back width at span k saved old _ mask (number c.merged.result) (record {
      law = g.met.O.BitOrder.one_to_one;
      in_head = in_head;
      met = c.requires.met;
      within = subst (λ t. t ≤ width) tail c.part.result.tail_in;
      masked = masked;
      inside = omega (arith, inside, length-map memory number);
      put = map-set number memory _ c.merged.result ∙ ap (λ z. slice_set old (nat_abs z + k) (number c.merged.result)) same;
      digits = λ p small. c.merged.ensures p small ∙ ap (λ w. if digit mask p then digit w p else digit saved p) read;
    })
