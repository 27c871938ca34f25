use Rattle.std.proofs.Common.{rules, ◌≡◌, ◌+◌, ◌-◌, ◌*◌, ◌∙◌, ap, refl, sym, arith, map}
use Rattle.bitvec.specs.Digit.{digit, count_below}
use Rattle.bitvec.proofs.DigitLemmas.{count_below-same}
use Rattle.bitvec.proofs.PartLemmas.{element_past, length-list_of}
use Rattle.bitvec_slice.specs.BitSlice.{slice_memory, slice_span, slice_word, slice_bits}
use Rattle.bitvec.proofs.CountLemmas.{count_start}
use Rattle.bitvec_slice.proofs.ListCountLemmas.{place_test, count_more, counted_small, counted_all}
use Rattle.bitvec_slice.proofs.SkipLemmas.{number_at}
use Rattle.bitvec_slice.proofs.slice.bit_slice.BitSlice.count_ones.Goals as goal

pub returns-then-met-eq0 : goal.returns-then-met-eq0
returns-then-met-eq0 g c =
    let width = g.R.BitRegister.BITS in
    let at = g.O.BitAt.at_of in
    let slice = c.args.self.now in
    let words = map g.R.BitRegister.number (slice_memory slice) in
    let xs = slice_bits slice in
    counted_all width slice.span.head slice.span.len 0 0 xs (omega (arith, g.met.R.BitRegister.width_at_least_8)) (λ j h. element_past width at (slice_span slice) words j h) (length-list_of width at (slice_span slice) words)
    (omega (arith, c.elements-met.ensures.value, c.if-met-eq0.true)) (count_start (place_test slice.span.head xs) width)

pub returns-then-met-eq1 : goal.returns-then-met-eq1
returns-then-met-eq1 g c =
    let width = g.R.BitRegister.BITS in
    let at = g.O.BitAt.at_of in
    let slice = c.args.self.now in
    let words = map g.R.BitRegister.number (slice_memory slice) in
    let xs = slice_bits slice in
    let first = count_more width at slice.span.head xs 0 (slice_word slice 0) c.ones_in_word-total.result 0 g.met.O.BitOrder.one_to_one refl c.ones_in_word-total.ensures (count_start (place_test slice.span.head xs) width) in
    counted_all width slice.span.head slice.span.len 1 c.ones_in_word-total.result xs (omega (arith, g.met.R.BitRegister.width_at_least_8)) (λ j h. element_past width at (slice_span slice) words j h) (length-list_of width at (slice_span slice) words)
    (omega (arith, c.elements-met.ensures.value, c.if-met-eq1.true)) (omega (arith, first))

pub loop-i-init : goal.loop-i-init
loop-i-init g c =
    let width = g.R.BitRegister.BITS in
    let slice = c.args.self.now in
    let xs = slice_bits slice in
    let first = count_more width g.O.BitAt.at_of slice.span.head xs 0 (slice_word slice 0) c.ones_in_word-total.result 0 g.met.O.BitOrder.one_to_one refl c.ones_in_word-total.ensures (count_start (place_test slice.span.head xs) width) in
    omega (arith, first)

pub overflow_add-total : goal.overflow_add-total
overflow_add-total g c =
    let width = g.R.BitRegister.BITS in
    let number = g.R.BitRegister.number in
    let slice = c.args.self.now in
    let inner = c.inner_words-inner.result.now in
    let i = c.loop-i.i in
    let is = sym (number_at number inner i c.index-inner-i.result (search rules)) ∙ sym (ap number c.index-inner-i.is) in
    let many = c.count_ones.ensures.count ∙ count_below-same (digit (number c.index-inner-i.result)) (digit (slice_word slice (i + 1))) width (λ p small. sym (ap (λ n. digit n p) is) ∙ c.inner_words-inner.ensures.digits i p (search rules) small) in
    let more = count_more width g.O.BitAt.at_of slice.span.head (slice_bits slice) (i + 1) (slice_word slice (i + 1)) c.count_ones.result c.loop-i.total g.met.O.BitOrder.one_to_one refl many c.loop-i.invariant in
    let small = counted_small width slice.span.head slice.span.len (i + 1) (c.loop-i.total + c.count_ones.result) (slice_bits slice) (omega (arith, g.met.R.BitRegister.width_at_least_8)) (omega (arith, c.inner_words-inner.ensures.count)) more in
    omega (arith, small, slice.span.short, slice.span.in_word, g.met.R.BitRegister.width_at_most_128)

pub loop-i-preserved : goal.loop-i-preserved
loop-i-preserved g c =
    let width = g.R.BitRegister.BITS in
    let number = g.R.BitRegister.number in
    let slice = c.args.self.now in
    let inner = c.inner_words-inner.result.now in
    let i = c.loop-i.i in
    let is = sym (number_at number inner i c.index-inner-i.result (search rules)) ∙ sym (ap number c.index-inner-i.is) in
    let many = c.count_ones.ensures.count ∙ count_below-same (digit (number c.index-inner-i.result)) (digit (slice_word slice (i + 1))) width (λ p small. sym (ap (λ n. digit n p) is) ∙ c.inner_words-inner.ensures.digits i p (search rules) small) in
    count_more width g.O.BitAt.at_of slice.span.head (slice_bits slice) (i + 1) (slice_word slice (i + 1)) c.count_ones.result c.loop-i.total g.met.O.BitOrder.one_to_one refl many c.loop-i.invariant

pub overflow_add-result : goal.overflow_add-result
overflow_add-result g c =
    let width = g.R.BitRegister.BITS in
    let slice = c.args.self.now in
    let xs = slice_bits slice in
    let met = c.elements-met.result in
    let before : c.loop-i.i + 1 ≡ met - 1 = omega (arith, c.inner_words-inner.ensures.count, c.elements-met.ensures.value) in
    let more = count_more width g.O.BitAt.at_of slice.span.head xs (met - 1) (slice_word slice (met - 1)) c.ones_in_word.result c.loop-i.total g.met.O.BitOrder.one_to_one refl c.ones_in_word.ensures (c.loop-i.invariant ∙ ap (λ k. count_below (place_test slice.span.head xs) (k * width)) before) in
    let small = counted_small width slice.span.head slice.span.len (met - 1) (c.loop-i.total + c.ones_in_word.result) xs (omega (arith, g.met.R.BitRegister.width_at_least_8)) (omega (arith, c.elements-met.ensures.value, before)) more in
    omega (arith, small, slice.span.short, slice.span.in_word, g.met.R.BitRegister.width_at_most_128)

pub returns : goal.returns
returns g c =
    let width = g.R.BitRegister.BITS in
    let at = g.O.BitAt.at_of in
    let slice = c.args.self.now in
    let words = map g.R.BitRegister.number (slice_memory slice) in
    let xs = slice_bits slice in
    let met = c.elements-met.result in
    let before : c.loop-i.i + 1 ≡ met - 1 = omega (arith, c.inner_words-inner.ensures.count, c.elements-met.ensures.value) in
    let more = count_more width at slice.span.head xs (met - 1) (slice_word slice (met - 1)) c.ones_in_word.result c.loop-i.total g.met.O.BitOrder.one_to_one refl c.ones_in_word.ensures (c.loop-i.invariant ∙ ap (λ k. count_below (place_test slice.span.head xs) (k * width)) before) in
    counted_all width slice.span.head slice.span.len (met - 1 + 1) (c.loop-i.total + c.ones_in_word.result) xs (omega (arith, g.met.R.BitRegister.width_at_least_8)) (λ j h. element_past width at (slice_span slice) words j h) (length-list_of width at (slice_span slice) words)
    (omega (arith, c.elements-met.ensures.value, before)) more
