use Rattle.std.proofs.Common.{◌≡◌, ◌+◌, ◌*◌, ◌/◌, ◌<◌, ap, arith}
use Rattle.bitvec_slice.specs.BitSlice.{slice_span, slice_bits}
use Rattle.bitvec_slice.specs.Field.{stretch_end}
use Rattle.bitvec_slice.proofs.FindLemmas.{word_at}
use Rattle.bitvec_slice.proofs.WordListLemmas.{none_from, index_from, passed_from, first_from, finds_behind, found_index}
use Rattle.bitvec_slice.proofs.slice.bit_slice.BitSlice.first_between.Goals as goal

pub chosen_from-requires-clause-met : goal.chosen_from-requires-clause-met
chosen_from-requires-clause-met g c =
    let slice = c.args.self.now in
    let span = slice_span slice in
    let bits = g.R.BitRegister.BITS in
    let width = c.bits_of-width.result in
    let some : 0 < bits = omega (arith, g.met.R.BitRegister.width_at_least_8) in
    let word = word_at bits width span.head c.head.result span.len c.args.from c.bits_of-width.ensures.value c.head.ensures some (omega (arith, c.if-upto-from.false, c.requires)) in
    word.met

pub chosen_from-requires-clause-start : goal.chosen_from-requires-clause-start
chosen_from-requires-clause-start g c =
    let slice = c.args.self.now in
    let span = slice_span slice in
    let bits = g.R.BitRegister.BITS in
    let width = c.bits_of-width.result in
    let some : 0 < bits = omega (arith, g.met.R.BitRegister.width_at_least_8) in
    let word = word_at bits width span.head c.head.result span.len c.args.from c.bits_of-width.ensures.value c.head.ensures some (omega (arith, c.if-upto-from.false, c.requires)) in
    word.from

pub chosen_from-requires-clause-end : goal.chosen_from-requires-clause-end
chosen_from-requires-clause-end g c =
    let slice = c.args.self.now in
    let span = slice_span slice in
    let bits = g.R.BitRegister.BITS in
    let width = c.bits_of-width.result in
    let some : 0 < bits = omega (arith, g.met.R.BitRegister.width_at_least_8) in
    let word = word_at bits width span.head c.head.result span.len c.args.from c.bits_of-width.ensures.value c.head.ensures some (omega (arith, c.if-upto-from.false, c.requires)) in
    omega (arith, word.upto, word.end, c.bits_of-width.ensures.value)

pub overflow_sub-i : goal.overflow_sub-i
overflow_sub-i g c =
    let slice = c.args.self.now in
    let span = slice_span slice in
    let bits = g.R.BitRegister.BITS in
    let width = c.bits_of-width.result in
    let k = (c.head.result + c.args.from) / width in
    let index = c.in-Some.index in
    let row : k * width ≡ k * bits = ap (λ b. k * b) c.bits_of-width.ensures.value in
    let on = index_from c.chosen_from.ensures index c.in-Some.ensures (omega (arith, c.if-upto-from.false, c.requires)) in
    omega (arith, on, row, c.from.ensures, c.head-in-Some.ensures)

pub returns-then-i-upto : goal.returns-then-i-upto
returns-then-i-upto g c =
    let slice = c.args.self.now in
    let span = slice_span slice in
    let bits = g.R.BitRegister.BITS in
    let width = c.bits_of-width.result in
    let k = (c.head.result + c.args.from) / width in
    let index = c.in-Some.index in
    let row : k * width ≡ k * bits = ap (λ b. k * b) c.bits_of-width.ensures.value in
    let is = found_index k index bits span.head c.bits_of-width.ensures.value c.from.ensures c.head-in-Some.ensures in
    passed_from c.chosen_from.ensures index _ c.in-Some.ensures is c.args.upto c.requires c.if-i-upto.true

pub returns-else-i-upto : goal.returns-else-i-upto
returns-else-i-upto g c =
    let slice = c.args.self.now in
    let span = slice_span slice in
    let bits = g.R.BitRegister.BITS in
    let width = c.bits_of-width.result in
    let k = (c.head.result + c.args.from) / width in
    let index = c.in-Some.index in
    let row : k * width ≡ k * bits = ap (λ b. k * b) c.bits_of-width.ensures.value in
    let is = found_index k index bits span.head c.bits_of-width.ensures.value c.from.ensures c.head-in-Some.ensures in
    first_from c.chosen_from.ensures index _ c.in-Some.ensures is c.args.upto c.requires c.if-upto-from.false c.if-i-upto.false

pub first_after-requires-clause-met : goal.first_after-requires-clause-met
first_after-requires-clause-met g c =
    let slice = c.args.self.now in
    let span = slice_span slice in
    let bits = g.R.BitRegister.BITS in
    let width = c.bits_of-width.result in
    let some : 0 < bits = omega (arith, g.met.R.BitRegister.width_at_least_8) in
    let word = word_at bits width span.head c.head.result span.len c.args.from
    c.bits_of-width.ensures.value c.head.ensures some
    (omega (arith, c.if-upto-from.false, c.requires)) in
    word.met

pub returns-in-None : goal.returns-in-None
returns-in-None g c =
    let slice = c.args.self.now in
    let span = slice_span slice in
    let bits = g.R.BitRegister.BITS in
    let width = c.bits_of-width.result in
    let k = (c.head.result + c.args.from) / width in
    let some : 0 < bits = omega (arith, g.met.R.BitRegister.width_at_least_8) in
    let small : span.head < bits = omega (arith, slice.span.in_word, some) in
    let word = word_at bits width span.head c.head.result span.len c.args.from c.bits_of-width.ensures.value c.head.ensures some (omega (arith, c.if-upto-from.false, c.requires)) in
    let row : (k + 1) * width ≡ (k + 1) * bits = ap (λ b. (k + 1) * b) c.bits_of-width.ensures.value in
    let next = stretch_end bits span.head span.len k in
    let passed = none_from c.chosen_from.ensures c.in-None.ensures next (omega arith) (omega (arith, small)) in
    finds_behind (slice_bits slice) c.args.bit c.args.from next c.args.upto c.first_after.result (omega (arith, word.upto, word.end, row, c.if-upto-from.false, c.requires)) passed c.first_after.ensures
