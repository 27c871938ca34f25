use Rattle.std.proofs.Common.{◌≡◌, ◌+◌, ◌<◌, get_or, length, map, true, refl, ap, subst, ◌∙◌, arith}
use Rattle.std.specs.Prelude.{nat_abs, slice_index}
use Rattle.std.specs.Int.{w64}
use Rattle.std.proofs.lemmas.Int.{ints}
use mir.Val.{to_z, of_z}
use Rattle.bitvec.specs.Digit.{digit}
use Rattle.bitvec.specs.Order.{IsMaskOf}
use Rattle.bitvec.specs.Parts.{Part}
use Rattle.bitvec.proofs.PartLemmas.{length-list_of}
use Rattle.bitvec_slice.specs.BitSlice.{slice_memory, slice_span, slice_bits}
use Rattle.bitvec_slice.proofs.PartMasks.{lacking_zeros, lacking_same}
use Rattle.bitvec_slice.proofs.InnerWordLemmas.{inner_digits}
use Rattle.bitvec_slice.proofs.SkipLemmas.{number_at}
use Rattle.bitvec_slice.proofs.FreeRunLemmas.{free_masked, free_whole}
use Rattle.bitvec_slice.proofs.slice.bit_slice.BitSlice.zeros_in_word.Goals as goal

pub returns-then-k-eq0-clause-digits : goal.returns-then-k-eq0-clause-digits
returns-then-k-eq0-clause-digits g c =
    let bits = g.R.BitRegister.BITS in
    let number = g.R.BitRegister.number in
    let at = g.O.BitAt.at_of in
    let law = g.met.O.BitOrder.one_to_one in
    let slice = c.args.self.now in
    let span = slice_span slice in
    let met = subst (λ n. c.args.k < n) c.requires.met c.requires.inside in
    let lacking = lacking_same bits at span.head span.len c.args.k true true (number c.into_inner.result) _ refl c.into_inner.ensures.value
    (lacking_zeros bits at span.head span.len c.args.k _ law (omega (arith, slice.span.in_word, g.met.R.BitRegister.width_at_least_8)) met
    (subst (λ (p : Part). IsMaskOf bits at p.head p.tail c.mask.result) c.part-part.ensures.part c.mask.ensures)) in
    free_masked bits at span.head span.len c.args.k (slice_bits slice) (number c.load_value.result) (number c.not.result) law
    (length-list_of bits at span (map number (slice_memory slice))) c.not.ensures.digits (number c.into_inner.result) (number c.and.result) (c.load_value.ensures ∙ c.part-part.ensures.word) lacking c.and.ensures.digits

pub returns-clause-digits : goal.returns-clause-digits
returns-clause-digits g c =
    let bits = g.R.BitRegister.BITS in
    let number = g.R.BitRegister.number in
    let at = g.O.BitAt.at_of in
    let law = g.met.O.BitOrder.one_to_one in
    let slice = c.args.self.now in
    let span = slice_span slice in
    let memory = slice_memory slice in
    let k = c.args.k in
    let in_head : span.head < bits = omega (arith, slice.span.in_word, g.met.R.BitRegister.width_at_least_8) in
    let later : 0 < c.args.k = omega (arith, c.if-k-eq0.false) in
    let more = subst (λ n. c.args.k + 1 < n) c.requires.met (let less : c.args.k + 1 < c.args.met = omega (arith, c.if-k-met.false, c.requires.inside) in less) in
    let met = subst (λ n. c.args.k < n) c.requires.met c.requires.inside in
    let first : nat_abs (to_z w64 (of_z w64 c.address-first.result)) ≡ nat_abs span.word = ap nat_abs (let here : to_z w64 (of_z w64 c.address-first.result) ≡ span.word = omega (arith, ints, c.address-first.ensures, slice.fits.0) in here) in
    let inside : nat_abs (to_z w64 (of_z w64 c.address-first.result)) + c.args.k < length memory = omega (arith, first, slice.fits.1, met) in
    let word = get_or memory (nat_abs (to_z w64 (of_z w64 c.address-first.result)) + k) c.index-self-first.result in
    let is = number_at number memory (nat_abs (to_z w64 (of_z w64 c.address-first.result)) + k) c.index-self-first.result inside ∙ ap (λ n. slice_index (map number memory) (n + k)) first in
    free_whole bits at span.head span.len k (slice_bits slice) (number word) (number c.not-2.result) law
    (length-list_of bits at span (map number memory)) c.not-2.ensures.digits in_head later more
    (λ p small. ap (λ w. digit w p) is ∙ inner_digits bits at span (map number memory) k p law in_head later more small)
