use Rattle.std.proofs.Common.{◌≡◌, ◌*◌, ◌+◌, ◌-◌, ◌<◌, map, ap, subst, arith}
use Rattle.bitvec.proofs.PartLemmas.{length-list_of}
use Rattle.bitvec_slice.specs.BitSlice.{slice_memory, slice_span, slice_bits}
use Rattle.bitvec_slice.specs.FreeRuns.{digit_of, is_free}
use Rattle.bitvec_slice.proofs.ListCountLemmas.{met_small}
use Rattle.bitvec_slice.proofs.FreeRunLemmas.{passed_none, passed_more, first_of_all, shows_free, first_free, none_free}
use Rattle.bitvec_slice.proofs.slice.bit_slice.BitSlice.find_zeros_by_words.Goals as goal

pub loop-k-init : goal.loop-k-init
loop-k-init g c = passed_none (is_free (slice_span c.args.self.now).head (slice_bits c.args.self.now)) c.args.count _ c.requires.some (omega arith)

pub loop-k-preserved : goal.loop-k-preserved
loop-k-preserved g c =
    let bits = g.R.BitRegister.BITS in
    let head = (slice_span c.args.self.now).head in
    let xs = slice_bits c.args.self.now in
    let number = g.R.BitRegister.number c.zeros_in_word-zeros.result in
    let k = c.loop-k.k in
    let word = digit_of bits c.args.rises number in
    let shows = shows_free bits c.args.rises g.O.BitAt.at_of number head xs k c.requires.order c.zeros_in_word-zeros.ensures.digits in
    passed_more (is_free head xs) word bits c.args.count (k * bits) c.loop-k.before c.loop-k.invariant shows c.high_run-before.result _ c.requires.most (omega arith) c.high_run-before.ensures.most c.high_run-before.ensures.ones c.high_run-before.ensures.stop c.in-None.ensures

pub overflow_mul-start : goal.overflow_mul-start
overflow_mul-start g c =
    let bits = g.R.BitRegister.BITS in
    let slice = c.args.self.now in
    let span = slice_span slice in
    let k = c.loop-k.k in
    let row : c.loop-k.k * c.bits_of-width.result ≡ c.loop-k.k * g.R.BitRegister.BITS = ap (λ b. k * b) c.bits_of-width.ensures.value in
    let met = subst (λ n. c.loop-k.k < n) c.elements-met.ensures.value c.loop-k-test.true in
    let small = met_small bits span.head span.len k (omega (arith, g.met.R.BitRegister.width_at_least_8)) met in
    omega (arith, row, small, slice.span.short, slice.span.in_word, g.met.R.BitRegister.width_at_most_128)

pub overflow_add-start : goal.overflow_add-start
overflow_add-start g c =
    let bits = g.R.BitRegister.BITS in
    let slice = c.args.self.now in
    let span = slice_span slice in
    let k = c.loop-k.k in
    let row : c.loop-k.k * c.bits_of-width.result ≡ c.loop-k.k * g.R.BitRegister.BITS = ap (λ b. k * b) c.bits_of-width.ensures.value in
    let met = subst (λ n. c.loop-k.k < n) c.elements-met.ensures.value c.loop-k-test.true in
    let small = met_small bits span.head span.len k (omega (arith, g.met.R.BitRegister.width_at_least_8)) met in
    omega (arith, row, small, c.in-Some.ensures.0, c.loop-k.invariant.short, c.requires.most, slice.span.short, slice.span.in_word, g.met.R.BitRegister.width_at_most_128)

pub overflow_sub-start : goal.overflow_sub-start
overflow_sub-start g c =
    let row : c.loop-k.k * c.bits_of-width.result ≡ c.loop-k.k * g.R.BitRegister.BITS = ap (λ b. c.loop-k.k * b) c.bits_of-width.ensures.value in
    omega (arith, row, c.loop-k.invariant.within)

pub overflow_sub-result : goal.overflow_sub-result
overflow_sub-result g c =
    let bits = g.R.BitRegister.BITS in
    let slice = c.args.self.now in
    let head = (slice_span slice).head in
    let xs = slice_bits slice in
    let number = g.R.BitRegister.number c.zeros_in_word-zeros.result in
    let k = c.loop-k.k in
    let s = c.in-Some.s in
    let before = c.loop-k.before in
    let word = digit_of bits c.args.rises number in
    let row : c.loop-k.k * c.bits_of-width.result ≡ c.loop-k.k * g.R.BitRegister.BITS = ap (λ b. k * b) c.bits_of-width.ensures.value in
    let shows = shows_free bits c.args.rises g.O.BitAt.at_of number head xs k c.requires.order c.zeros_in_word-zeros.ensures.digits in
    let m = k * c.bits_of-width.result + c.from.result - c.from-in-Some.result in
    let first = first_of_all (is_free head xs) word bits c.args.count (k * bits) before c.loop-k.invariant shows s m (omega (arith, row, c.loop-k.invariant.within)) c.in-Some.ensures.1 in
    let start : c.from-head.result ≡ (slice_span slice).head = omega arith in
    let found = first_free head xs m (m - c.from-head.result) c.args.count c.requires.some (omega (arith, start)) first in
    omega (arith, found.0, start)

pub returns-in-Some : goal.returns-in-Some
returns-in-Some g c =
    let bits = g.R.BitRegister.BITS in
    let slice = c.args.self.now in
    let head = (slice_span slice).head in
    let xs = slice_bits slice in
    let number = g.R.BitRegister.number c.zeros_in_word-zeros.result in
    let k = c.loop-k.k in
    let s = c.in-Some.s in
    let before = c.loop-k.before in
    let word = digit_of bits c.args.rises number in
    let row : c.loop-k.k * c.bits_of-width.result ≡ c.loop-k.k * g.R.BitRegister.BITS = ap (λ b. k * b) c.bits_of-width.ensures.value in
    let shows = shows_free bits c.args.rises g.O.BitAt.at_of number head xs k c.requires.order c.zeros_in_word-zeros.ensures.digits in
    let m = k * c.bits_of-width.result + c.from.result - c.from-in-Some.result in
    let first = first_of_all (is_free head xs) word bits c.args.count (k * bits) before c.loop-k.invariant shows s m (omega (arith, row, c.loop-k.invariant.within)) c.in-Some.ensures.1 in
    let start : c.from-head.result ≡ (slice_span slice).head = omega arith in
    let found = first_free head xs m (m - c.from-head.result) c.args.count c.requires.some (omega (arith, start)) first in
    (found.1, found.2)

pub returns : goal.returns
returns g c =
    let slice = c.args.self.now in
    let span = slice_span slice in
    none_free g.R.BitRegister.BITS span.head span.len (slice_bits slice) (omega (arith, g.met.R.BitRegister.width_at_least_8)) (length-list_of g.R.BitRegister.BITS g.O.BitAt.at_of span (map g.R.BitRegister.number (slice_memory slice)))
    c.loop-k.k c.elements-met.result c.loop-k.before c.args.count c.requires.some c.elements-met.ensures.value (omega (arith, c.loop-k-test.false)) c.loop-k.invariant
