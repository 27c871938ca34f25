use Rattle.std.proofs.Common.{◌≡◌, ℕ, ◌+◌, ◌*◌, ◌<◌, ◌≤◌, nat_lt, not, map, ap, sym, ◌∙◌, arith}
use Rattle.bitvec.specs.BitSpan.{span_of}
use Rattle.bitvec.specs.Digit.{digit}
use Rattle.bitvec.specs.Span.{element, list_of}
use Rattle.bitvec.proofs.BecomesLemmas.{becomes-same, becomes-then}
use Rattle.bitvec.proofs.PartLemmas.{length-list_of}
use Rattle.bitvec.proofs.PlaceLemmas.{met_one}
use Rattle.bitvec_slice.specs.Field.{field_list}
use Rattle.bitvec_slice.specs.Words.{digit_from}
use Rattle.bitvec_slice.proofs.FieldNearLemmas.{near_mask, near_stored, near_low, near_within, met_two}
use Rattle.bitvec_slice.proofs.FieldStoreLemmas.{one_stored, two_stored, length-field_list}
use Rattle.bitvec_slice.proofs.field.store_near.Goals as goal

pub put_digits-requires-clause-mask : goal.put_digits-requires-clause-mask
put_digits-requires-clause-mask g c =
    let span = c.args.span in
    let bits = g.R.BitRegister.BITS in
    let ones = g.R.BitRegister.number c.low_ones-ones.result in
    near_mask bits span.head span.len g.O.BitAt.at_of g.O.Sequential.RISES ones (g.R.BitRegister.number c.in_only-mask.result) 0 c.requires.near c.low_ones-ones.ensures.below
    (λ p h. c.low_ones-ones.ensures.digits p h ∙ ap (nat_lt p) c.len.ensures)
    (λ i h. c.in_only-mask.ensures i h ∙ ap (digit_from g.O.Sequential.RISES span.head span.len ones) (let e : i ≡ 0 * bits + i = omega arith in e))

pub put_digits-requires-clause-within : goal.put_digits-requires-clause-within
put_digits-requires-clause-within g c = λ i h none.
    let span = c.args.span in
    let bits = g.R.BitRegister.BITS in
    let number = g.R.BitRegister.number in
    c.in_only-word.ensures i h
    ∙ near_within bits span.head span.len g.O.Sequential.RISES (number c.low_digits.result) (number c.low_ones-ones.result) (number c.and-digits.result) (i) c.and-digits.ensures.below c.and-digits.ensures.digits
    (sym (c.in_only-mask.ensures i h) ∙ none)

pub put_digits-requires-2-clause-mask : goal.put_digits-requires-2-clause-mask
put_digits-requires-2-clause-mask g c =
    let span = c.args.span in
    let bits = g.R.BitRegister.BITS in
    let ones = g.R.BitRegister.number c.low_ones-ones.result in
    near_mask bits span.head span.len g.O.BitAt.at_of g.O.Sequential.RISES ones (g.R.BitRegister.number c.in_first-mask.result) 0 c.requires.near c.low_ones-ones.ensures.below
    (λ p h. c.low_ones-ones.ensures.digits p h ∙ ap (nat_lt p) c.len.ensures)
    (λ i h. c.in_first-mask.ensures i h ∙ ap (digit_from g.O.Sequential.RISES span.head span.len ones) (let e : i ≡ 0 * bits + i = omega arith in e))

pub put_digits-requires-2-clause-within : goal.put_digits-requires-2-clause-within
put_digits-requires-2-clause-within g c = λ i h none.
    let span = c.args.span in
    let bits = g.R.BitRegister.BITS in
    let number = g.R.BitRegister.number in
    c.in_first-word.ensures i h
    ∙ near_within bits span.head span.len g.O.Sequential.RISES (number c.low_digits.result) (number c.low_ones-ones.result) (number c.and-digits.result) (i) c.and-digits.ensures.below c.and-digits.ensures.digits
    (sym (c.in_first-mask.ensures i h) ∙ none)

pub put_digits-requires-3-clause-mask : goal.put_digits-requires-3-clause-mask
put_digits-requires-3-clause-mask g c =
    let span = c.args.span in
    let bits = g.R.BitRegister.BITS in
    let ones = g.R.BitRegister.number c.low_ones-ones.result in
    near_mask bits span.head span.len g.O.BitAt.at_of g.O.Sequential.RISES ones (g.R.BitRegister.number c.in_second-mask.result) 1 c.requires.near c.low_ones-ones.ensures.below
    (λ p h. c.low_ones-ones.ensures.digits p h ∙ ap (nat_lt p) c.len.ensures)
    (λ i h. c.in_second-mask.ensures i h ∙ ap (digit_from g.O.Sequential.RISES span.head span.len ones) (let e : bits + i ≡ 1 * bits + i = omega arith in e))

pub put_digits-requires-3-clause-within : goal.put_digits-requires-3-clause-within
put_digits-requires-3-clause-within g c = λ i h none.
    let span = c.args.span in
    let bits = g.R.BitRegister.BITS in
    let number = g.R.BitRegister.number in
    c.in_second-word.ensures i h
    ∙ near_within bits span.head span.len g.O.Sequential.RISES (number c.low_digits.result) (number c.low_ones-ones.result) (number c.and-digits.result) (bits + i) c.and-digits.ensures.below c.and-digits.ensures.digits
    (sym (c.in_second-mask.ensures i h) ∙ none)

pub returns-then-end-from : goal.returns-then-end-from
returns-then-end-from g c =
    let bits = g.R.BitRegister.BITS in
    let number = g.R.BitRegister.number in
    let at = g.O.BitAt.at_of in
    let rises = g.O.Sequential.RISES in
    let span = c.args.span in
    let eight = g.met.R.BitRegister.width_at_least_8 in
    let value = g.N.BitRegister.number c.args.value in
    let old = map number c.args.memory.now in
    let xs = field_list (not rises) bits rises span.head span.len value in
    let digits = number c.and-digits.result in
    let low : (p : ℕ) → p < span.len → digit digits p ≡ digit value p =
    near_low bits span.len value (number c.low_digits.result) (number c.low_ones-ones.result) digits c.requires.near c.low_digits.ensures.digits
    (λ p h. c.low_ones-ones.ensures.digits p h ∙ ap (nat_lt p) c.len.ensures) c.and-digits.ensures.digits in
    let in_head : span.head < bits = omega (arith, span.in_word, eight) in
    let within : span.head + span.len ≤ bits = omega (arith, c.if-end-from.true, c.from-2.ensures, c.BITS.ensures, c.from.ensures, c.into_inner.ensures.value, c.head.ensures, c.len-2.ensures) in
    let first = c.put_digits.ensures (element xs)
    (near_stored bits span.head span.len at rises value digits (number c.in_only-word.result) 0 (omega (arith, eight)) in_head low
    (λ i h. c.in_only-word.ensures i h ∙ ap (digit_from rises span.head span.len digits) (let e : i ≡ 0 * bits + i = omega arith in e))) in
    becomes-same bits at (span_of span) old (map number c.put_digits.new.memory) _ xs
    (one_stored bits span.head span.len xs (list_of bits at (span_of span) old) (omega (arith, eight)) (length-field_list (not rises) bits rises span.head span.len value)
    (length-list_of bits at (span_of span) old) (sym (met_one bits span.head span.len c.requires.some within))) first

pub returns : goal.returns
returns g c =
    let bits = g.R.BitRegister.BITS in
    let number = g.R.BitRegister.number in
    let at = g.O.BitAt.at_of in
    let rises = g.O.Sequential.RISES in
    let span = c.args.span in
    let eight = g.met.R.BitRegister.width_at_least_8 in
    let value = g.N.BitRegister.number c.args.value in
    let old = map number c.args.memory.now in
    let mid = map number c.put_digits-2.new.memory in
    let new = map number c.put_digits-3.new.memory in
    let xs = field_list (not rises) bits rises span.head span.len value in
    let digits = number c.and-digits.result in
    let low : (p : ℕ) → p < span.len → digit digits p ≡ digit value p =
    near_low bits span.len value (number c.low_digits.result) (number c.low_ones-ones.result) digits c.requires.near c.low_digits.ensures.digits
    (λ p h. c.low_ones-ones.ensures.digits p h ∙ ap (nat_lt p) c.len.ensures) c.and-digits.ensures.digits in
    let in_head : span.head < bits = omega (arith, span.in_word, eight) in
    let over : bits < span.head + span.len = omega (arith, c.if-end-from.false, c.from-2.ensures, c.BITS.ensures, c.from.ensures, c.into_inner.ensures.value, c.head.ensures, c.len-2.ensures) in
    let first = c.put_digits-2.ensures (element xs)
    (near_stored bits span.head span.len at rises value digits (number c.in_first-word.result) 0 (omega (arith, eight)) in_head low
    (λ i h. c.in_first-word.ensures i h ∙ ap (digit_from rises span.head span.len digits) (let e : i ≡ 0 * bits + i = omega arith in e))) in
    let second = c.put_digits-3.ensures (element xs)
    (near_stored bits span.head span.len at rises value digits (number c.in_second-word.result) 1 (omega (arith, eight)) in_head low
    (λ i h. c.in_second-word.ensures i h ∙ ap (digit_from rises span.head span.len digits) (let e : bits + i ≡ 1 * bits + i = omega arith in e))) in
    becomes-same bits at (span_of span) old new _ xs
    (two_stored bits span.head span.len xs (list_of bits at (span_of span) old) (list_of bits at (span_of span) mid) (omega (arith, eight)) (length-field_list (not rises) bits rises span.head span.len value)
    (length-list_of bits at (span_of span) old) first.list (met_two bits span.head span.len in_head c.requires.near over))
    (becomes-then bits at (span_of span) old mid new _ _ first second)
