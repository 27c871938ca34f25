use Rattle.std.proofs.Common.{map, arith}
use Rattle.bitvec.proofs.PartLemmas.{length-list_of}
use Rattle.bitvec_slice.specs.BitSlice.{slice_memory, slice_span, slice_bits}
use Rattle.bitvec_slice.proofs.FindLemmas.{word_at, first_later}
use Rattle.bitvec_slice.proofs.slice.bit_slice.BitSlice.first_far.Goals as goal

pub overflow_add-k : goal.overflow_add-k
overflow_add-k g c =
    let slice = c.args.self.now in
    let long = length-list_of g.R.BitRegister.BITS g.O.BitAt.at_of (slice_span slice) (map g.R.BitRegister.number (slice_memory slice)) in
    omega (arith, long, c.requires, c.head-head.ensures, slice.span.short, slice.span.in_word, g.met.R.BitRegister.width_at_most_128)

pub overflow_mul-k : goal.overflow_mul-k
overflow_mul-k g c =
    let slice = c.args.self.now in
    let width = g.R.BitRegister.BITS in
    let span = slice_span slice in
    let long = length-list_of width g.O.BitAt.at_of span (map g.R.BitRegister.number (slice_memory slice)) in
    let word = word_at width _ span.head _ span.len c.loop-next.next c.bits_of-width.ensures.value c.head-head.ensures (omega (arith, g.met.R.BitRegister.width_at_least_8)) (omega (arith, long, c.requires)) in
    omega (arith, word, long, c.requires, slice.span.short, slice.span.in_word, g.met.R.BitRegister.width_at_most_128)

pub first_in_word-requires-clause-met : goal.first_in_word-requires-clause-met
first_in_word-requires-clause-met g c =
    let slice = c.args.self.now in
    let width = g.R.BitRegister.BITS in
    let span = slice_span slice in
    let long = length-list_of width g.O.BitAt.at_of span (map g.R.BitRegister.number (slice_memory slice)) in
    (word_at width _ span.head _ span.len c.loop-next.next c.bits_of-width.ensures.value c.head-head.ensures (omega (arith, g.met.R.BitRegister.width_at_least_8)) (omega (arith, long, c.requires))).met

pub returns-in-Some : goal.returns-in-Some
returns-in-Some g c =
    first_later (slice_bits c.args.self.now) c.args.bit c.args.from c.loop-next.next c.min-end.result c.args.upto c.in-Some.i c.loop-next.invariant.0 (omega (arith, c.min-end.ensures)) c.loop-next.invariant.1 c.in-Some.ensures
