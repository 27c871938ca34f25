use Rattle.std.proofs.Common.{◌≡◌, ℕ, ◌+◌, ◌<◌, ◌≤◌, ◌&&◌, nat_le, nat_lt, not, Some, map, length, get_or, ap, sym, ◌∙◌, arith, rules}
use Rattle.std.proofs.lemmas.Int.{ints}
use Rattle.std.proofs.lemmas.List.{get_or-map, map-set}
use Rattle.std.specs.Prelude.{nat_abs, slice_index, slice_set}
use Rattle.std.specs.Int.{w64}
use mir.Val.{to_z, of_z}
use Rattle.bitvec_mem.specs.Digit.{digit, exclusive_or}
use Rattle.bitvec_order.proofs.IndexLemmas.{digit-mask_at}
use Rattle.bitvec_ptr.proofs.PlaceOrder.{bit_below}
use Rattle.bitvec_span.specs.BitSpan.{span_of}
use Rattle.bitvec_span.specs.Parts.{part_head, part_tail}
use Rattle.bitvec_span.proofs.BecomesLemmas.{fits-numbers}
use Rattle.bitvec_span.proofs.MappedLemmas.{word-maps, turned_if}
use Rattle.bitvec_span.proofs.ptr.span.BitSpan.invert_part.Goals as goal

pub returns : goal.returns
returns g c =
    let width = g.R.BitRegister.BITS in
    let at = g.O.BitAt.at_of in
    let law = g.met.O.BitOrder.one_to_one in
    let number = g.R.BitRegister.number in
    let span = span_of c.args.self in
    let memory = c.args.memory.now in
    let old = map number memory in
    let k = c.args.k in
    let in_head = bit_below width c.args.self.head g.met.R.BitRegister.width_at_least_8 c.args.self.in_word in
    let fits = fits-numbers width span number memory c.requires.fits in
    let same : to_z w64 (of_z w64 c.address.result) ≡ c.args.self.word = omega (arith, ints) in
    let place : nat_abs (to_z w64 (of_z w64 c.address.result)) + k ≡ nat_abs span.word + k = ap (λ z. nat_abs z + k) same in
    let head = c.bounds_among-head.result.0 in
    let tail = c.bounds_among-head.result.1 in
    let is_head : head ≡ part_head span.head k = c.bounds_among-head.ensures.head in
    let is_tail : tail ≡ part_tail width span.head span.len k = c.bounds_among-head.ensures.tail in
    let in_tail : tail ≤ width = search rules in
    let masks = g.met.O.BitOrder.masks.sets (Some head) (Some tail) (search rules) in_tail (search rules) in
    let mask = c.into_inner-mask.ensures.value ∙ c.mask.ensures in
    let ones = λ (i : ℕ) (h : i < width). ap (λ n. digit n (at i)) mask ∙ digit-mask_at width at head tail _ i law in_tail masks h
    ∙ (λ m. nat_le (is_head m) i && nat_lt i (is_tail m)) in
    let got = c.index-memory-at.result in
    let there : nat_abs span.word + k < length memory = omega (arith, c.requires.fits.1, c.requires.met, c.requires.elements) in
    let was = ap number c.index-memory-at.is ∙ ap (λ n. number (get_or memory n got)) place ∙ sym (get_or-map number memory (nat_abs span.word + k) got 0 there) in
    word-maps not width at span old k _ (number c.xor.result) in_head fits (omega (arith, c.requires.met, c.requires.elements))
    (map-set number memory _ c.xor.result ∙ ap (λ n. slice_set old n (number c.xor.result)) place)
    (λ i h. c.xor.ensures.digits (at i) (law.below i h)
    ∙ ap (λ n. exclusive_or (digit n (at i)) (digit (number c.into_inner-mask.result) (at i))) was
    ∙ ap (exclusive_or (digit (slice_index old (nat_abs span.word + k)) (at i))) (ones i h)
    ∙ turned_if (digit (slice_index old (nat_abs span.word + k)) (at i)) _)
