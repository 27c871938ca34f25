use Rattle.std.proofs.Common.{◌≡◌, ◌+◌, ◌-◌, ◌*◌, ◌<◌, map, ap, arith}
use Rattle.bitvec_slice.specs.BitSlice.{slice_memory, slice_span, slice_bits}
use Rattle.bitvec_slice.specs.Field.{stretch_end}
use Rattle.bitvec_slice.proofs.ListCountLemmas.{met_small}
use Rattle.bitvec_slice.proofs.SkipLemmas.{met_before}
use Rattle.bitvec_slice.proofs.WordListLemmas.{whole_from, none_from, passed_from, first_from, finds_behind}
use Rattle.bitvec_slice.proofs.slice.bit_slice.BitSlice.first_after.Goals as goal

pub returns-then-upto-start : goal.returns-then-upto-start
returns-then-upto-start g c =
    let span = slice_span c.args.self.now in
    let bits = g.R.BitRegister.BITS in
    let row : (c.args.word + 1) * c.bits_of.result ≡ (c.args.word + 1) * bits = ap (λ b. (c.args.word + 1) * b) c.bits_of.ensures.value in
    λ j low high. absurd (omega (arith, low, high, row, c.head.ensures, c.if-upto-start.true, c.requires.inside))

-- the word behind begins at most a word past the slice's end
pub overflow_mul-start : goal.overflow_mul-start
overflow_mul-start g c =
    let bits = g.R.BitRegister.BITS in
    let span = c.args.self.now.span in
    let small = met_small bits span.head span.len c.args.word
    (omega (arith, g.met.R.BitRegister.width_at_least_8)) c.requires.met in
    let row : (c.args.word + 1) * c.bits_of.result ≡ (c.args.word + 1) * bits =
    ap (λ b. (c.args.word + 1) * b) c.bits_of.ensures.value in
    omega (arith, small, row, span.in_word, span.short)

pub overflow_add-i : goal.overflow_add-i
overflow_add-i g c =
    let bits = g.R.BitRegister.BITS in
    let span = c.args.self.now.span in
    let small = met_small bits span.head span.len c.args.word
    (omega (arith, g.met.R.BitRegister.width_at_least_8)) c.requires.met in
    let row : (c.args.word + 1) * c.bits_of.result ≡ (c.args.word + 1) * bits =
    ap (λ b. (c.args.word + 1) * b) c.bits_of.ensures.value in
    omega (arith, small, row, span.in_word, span.short, c.in-Some.ensures.0)

pub turned_word-requires : goal.turned_word-requires
turned_word-requires g c =
    let span = slice_span c.args.self.now in
    let bits = g.R.BitRegister.BITS in
    let k = c.args.word + 1 in
    let row : k * c.bits_of.result ≡ k * bits = ap (λ b. k * b) c.bits_of.ensures.value in
    met_before bits span.head span.len k (omega (arith, g.met.R.BitRegister.width_at_least_8)) (omega (arith, c.if-upto-start.false, c.requires.inside)) (omega (arith, row, c.head.ensures, c.if-upto-start.false, c.requires.inside))

pub first_later-requires-clause-met : goal.first_later-requires-clause-met
first_later-requires-clause-met g c =
    let span = slice_span c.args.self.now in
    let bits = g.R.BitRegister.BITS in
    let k = c.args.word + 1 in
    let row : k * c.bits_of.result ≡ k * bits = ap (λ b. k * b) c.bits_of.ensures.value in
    met_before bits span.head span.len k (omega (arith, g.met.R.BitRegister.width_at_least_8))
    (omega (arith, c.if-upto-start.false, c.requires.inside))
    (omega (arith, row, c.head.ensures, c.if-upto-start.false, c.requires.inside))

pub returns-then-i-upto : goal.returns-then-i-upto
returns-then-i-upto g c =
    let slice = c.args.self.now in
    let span = slice_span slice in
    let bits = g.R.BitRegister.BITS in
    let k = c.args.word + 1 in
    let upto = c.args.upto in
    let row : k * c.bits_of.result ≡ k * bits = ap (λ b. k * b) c.bits_of.ensures.value in
    let begin = stretch_end bits span.head span.len c.args.word in
    let small : span.head < bits = omega (arith, slice.span.in_word, g.met.R.BitRegister.width_at_least_8) in
    let is : begin ≡ k * bits - span.head = omega (arith, row, small, c.head.ensures, c.if-upto-start.false, c.requires.inside) in
    let chosen = whole_from bits g.O.BitAt.at_of span (map g.R.BitRegister.number (slice_memory slice)) k begin c.args.bit (g.R.BitRegister.number c.turned_word.result) g.met.O.BitOrder.one_to_one (omega (arith, small)) is c.turned_word.ensures in
    let r = k * c.bits_of.result - c.head.result + c.from.result in
    let place : r ≡ k * bits + c.in-Some.index - span.head = omega (arith, row, small, c.head.ensures, c.from.ensures) in
    first_from chosen c.in-Some.index r c.in-Some.ensures place upto c.requires.inside (omega (arith, is, row, c.head.ensures, c.if-upto-start.false)) c.if-i-upto.true

pub returns-else-i-upto : goal.returns-else-i-upto
returns-else-i-upto g c =
    let slice = c.args.self.now in
    let span = slice_span slice in
    let bits = g.R.BitRegister.BITS in
    let k = c.args.word + 1 in
    let upto = c.args.upto in
    let row : k * c.bits_of.result ≡ k * bits = ap (λ b. k * b) c.bits_of.ensures.value in
    let begin = stretch_end bits span.head span.len c.args.word in
    let small : span.head < bits = omega (arith, slice.span.in_word, g.met.R.BitRegister.width_at_least_8) in
    let is : begin ≡ k * bits - span.head = omega (arith, row, small, c.head.ensures, c.if-upto-start.false, c.requires.inside) in
    let chosen = whole_from bits g.O.BitAt.at_of span (map g.R.BitRegister.number (slice_memory slice)) k begin c.args.bit (g.R.BitRegister.number c.turned_word.result) g.met.O.BitOrder.one_to_one (omega (arith, small)) is c.turned_word.ensures in
    let r = k * c.bits_of.result - c.head.result + c.from.result in
    let place : r ≡ k * bits + c.in-Some.index - span.head = omega (arith, row, small, c.head.ensures, c.from.ensures) in
    passed_from chosen c.in-Some.index r c.in-Some.ensures place upto c.requires.inside c.if-i-upto.false

pub returns-in-None : goal.returns-in-None
returns-in-None g c =
    let slice = c.args.self.now in
    let span = slice_span slice in
    let bits = g.R.BitRegister.BITS in
    let k = c.args.word + 1 in
    let upto = c.args.upto in
    let row : k * c.bits_of.result ≡ k * bits = ap (λ b. k * b) c.bits_of.ensures.value in
    let begin = stretch_end bits span.head span.len c.args.word in
    let small : span.head < bits = omega (arith, slice.span.in_word, g.met.R.BitRegister.width_at_least_8) in
    let is : begin ≡ k * bits - span.head = omega (arith, row, small, c.head.ensures, c.if-upto-start.false, c.requires.inside) in
    let chosen = whole_from bits g.O.BitAt.at_of span (map g.R.BitRegister.number (slice_memory slice)) k begin c.args.bit (g.R.BitRegister.number c.turned_word.result) g.met.O.BitOrder.one_to_one (omega (arith, small)) is c.turned_word.ensures in
    let next = stretch_end bits span.head span.len k in
    let passed = none_from chosen c.in-None.ensures next (omega arith) (omega (arith, small)) in
    finds_behind (slice_bits slice) c.args.bit begin next upto c.first_later.result (omega (arith, is, small)) passed c.first_later.ensures
