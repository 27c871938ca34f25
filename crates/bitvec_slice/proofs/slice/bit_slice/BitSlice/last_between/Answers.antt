use Rattle.std.proofs.Common.{◌-◌, map, arith}
use Rattle.bitvec.proofs.PartLemmas.{length-list_of}
use Rattle.bitvec_slice.specs.BitSlice.{slice_memory, slice_span, slice_bits}
use Rattle.bitvec_slice.proofs.FindLemmas.{word_at, last_earlier}
use Rattle.bitvec_slice.proofs.slice.bit_slice.BitSlice.last_between.Goals as goal

pub overflow_add-k : goal.overflow_add-k
overflow_add-k g c =
    let slice = c.args.self.now in
    let long = length-list_of g.R.BitRegister.BITS g.O.BitAt.at_of (slice_span slice) (map g.R.BitRegister.number (slice_memory slice)) in
    omega (arith, long, c.requires, c.loop-end.invariant.0, c.head-head.ensures, slice.span.short, slice.span.in_word, g.met.R.BitRegister.width_at_most_128)

pub overflow_mul-k : goal.overflow_mul-k
overflow_mul-k g c =
    let slice = c.args.self.now in
    let width = g.R.BitRegister.BITS in
    let span = slice_span slice in
    let long = length-list_of width g.O.BitAt.at_of span (map g.R.BitRegister.number (slice_memory slice)) in
    let word = word_at width _ span.head _ span.len (c.loop-end.end - 1) c.bits_of-width.ensures.value c.head-head.ensures (omega (arith, g.met.R.BitRegister.width_at_least_8)) (omega (arith, long, c.requires, c.loop-end.invariant.0)) in
    omega (arith, word, long, c.requires, c.loop-end.invariant.0, c.bits_of-width.ensures.value, slice.span.short, slice.span.in_word, g.met.R.BitRegister.width_at_most_128)

pub last_in_word-requires-clause-met : goal.last_in_word-requires-clause-met
last_in_word-requires-clause-met g c =
    let slice = c.args.self.now in
    let width = g.R.BitRegister.BITS in
    let span = slice_span slice in
    let long = length-list_of width g.O.BitAt.at_of span (map g.R.BitRegister.number (slice_memory slice)) in
    (word_at width _ span.head _ span.len (c.loop-end.end - 1) c.bits_of-width.ensures.value c.head-head.ensures (omega (arith, g.met.R.BitRegister.width_at_least_8)) (omega (arith, long, c.requires, c.loop-end.invariant.0))).met

pub returns-in-Some : goal.returns-in-Some
returns-in-Some g c =
    last_earlier (slice_bits c.args.self.now) c.args.bit c.args.from c.max-start.result c.loop-end.end c.args.upto c.in-Some.i (omega (arith, c.max-start.ensures)) c.loop-end.invariant.0 c.loop-end.invariant.1 c.in-Some.ensures
