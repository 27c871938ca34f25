use Rattle.std.proofs.Common.{◌+◌, ◌*◌, ◌<◌, ◌&&◌, map, ap, sym, ◌∙◌, arith}
use Rattle.std.specs.Prelude.{nat_abs, slice_set}
use Rattle.std.specs.Int.{w64}
use Rattle.std.proofs.lemmas.List.{map-set}
use mir.Val.{to_z, of_z}
use Rattle.bitvec.specs.BitSpan.{span_of}
use Rattle.bitvec.specs.Digit.{digit}
use Rattle.bitvec.specs.Parts.{part_head, part_tail}
use Rattle.bitvec.proofs.BecomesLemmas.{fits-numbers}
use Rattle.bitvec.proofs.PartEditLemmas.{becomes-put}
use Rattle.bitvec.proofs.PartLemmas.{inside-from_part, part-from_inside}
use Rattle.bitvec_slice.proofs.AddressLemmas.{address_index}
use Rattle.bitvec_slice.proofs.FieldNearLemmas.{mixed_within}
use Rattle.bitvec_slice.proofs.FieldStoreLemmas.{same_tests}
use Rattle.bitvec_slice.proofs.SpanTurns.{read-word}
use Rattle.bitvec_slice.proofs.field.put_digits.Goals as goal

pub returns : goal.returns
returns g c = λ f says.
    let width = g.R.BitRegister.BITS in
    let at = g.O.BitAt.at_of in
    let number = g.R.BitRegister.number in
    let span = c.args.span in
    let k = c.args.k in
    let memory = c.args.memory.now in
    let here = nat_abs (to_z w64 (of_z w64 c.address.result)) + c.args.k in
    let r = c.index-memory-place.result in
    let in_head : span.head < width = omega (arith, span.in_word, g.met.R.BitRegister.width_at_least_8) in
    let first = address_index c.address.result span.word c.address.type_inv c.address.ensures in
    let old = read-word number memory here (nat_abs span.word + k) r (ap (λ n. n + k) first)
    (omega (arith, c.requires.fits.1, c.requires.met)) c.index-memory-place.is in
    becomes-put width at (span_of span) k (λ i. digit (number c.args.word) (at i)) (map number memory) _ (number c.or.result) in_head
    (fits-numbers width (span_of span) number memory c.requires.fits) c.requires.met
    (map-set number memory here c.or.result ∙ ap (λ n. slice_set (map number memory) (n + c.args.k) (number c.or.result)) first)
    (λ i h.
    let below = g.met.O.BitOrder.one_to_one.below i h in
    mixed_within _ (digit (number c.args.word) (at i)) (digit (number c.args.mask) (at i)) (digit (number c.and.result) (at i)) (digit (number c.or.result) (at i)) _
    (c.requires.mask i h
    ∙ sym (same_tests (part_head span.head k) i i (part_tail width span.head span.len k) span.head (k * width + i) (k * width + i) (span.head + span.len)
    (λ from upto. inside-from_part width span.head span.len k i in_head h c.requires.met from upto)
    (λ from upto. part-from_inside width span.head span.len k i in_head h c.requires.met from upto)))
    (c.requires.within i h)
    (c.and.ensures.digits (at i) below ∙ (λ m. digit (old m) (at i) && c.not.ensures.digits (at i) below m))
    (c.or.ensures.digits (at i) below))
    f says
