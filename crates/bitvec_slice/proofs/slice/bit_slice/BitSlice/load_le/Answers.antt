use Rattle.std.proofs.Common.{false, map, arith}
use Rattle.bitvec.proofs.PartLemmas.{length-list_of}
use Rattle.bitvec_slice.specs.BitSlice.{slice_memory, slice_span, slice_bits}
use Rattle.bitvec_slice.proofs.FieldLemmas.{field_digit, field_past, le_rising}
use Rattle.bitvec_slice.proofs.slice.bit_slice.BitSlice.load_le.Goals as goal

pub load-requires-clause-small : goal.load-requires-clause-small
load-requires-clause-small g c =
    let slice = c.args.self.now in
    omega (arith, c.requires, length-list_of g.R.BitRegister.BITS g.O.BitAt.at_of (slice_span slice) (map g.R.BitRegister.number (slice_memory slice)))

pub returns-clause-digits : goal.returns-clause-digits
returns-clause-digits g c =
    let slice = c.args.self.now in
    let eight = g.met.R.BitRegister.width_at_least_8 in
    field_digit g.R.BitRegister.BITS (slice_span slice).head (g.N.BitRegister.number c.load.result) (slice_bits slice) (omega (arith, eight)) (omega (arith, slice.span.in_word, eight)) false g.O.Sequential.RISES c.load.ensures

pub returns-clause-rising : goal.returns-clause-rising
returns-clause-rising g c =
    let slice = c.args.self.now in
    let eight = g.met.R.BitRegister.width_at_least_8 in
    le_rising g.R.BitRegister.BITS (slice_span slice).head (g.N.BitRegister.number c.load.result) (slice_bits slice) (omega (arith, eight)) (omega (arith, slice.span.in_word, eight)) g.O.Sequential.RISES c.load.ensures

pub returns-clause-past : goal.returns-clause-past
returns-clause-past g c =
    let slice = c.args.self.now in
    let eight = g.met.R.BitRegister.width_at_least_8 in
    field_past g.R.BitRegister.BITS (slice_span slice).head (g.N.BitRegister.number c.load.result) (slice_bits slice) (omega (arith, eight)) (omega (arith, slice.span.in_word, eight)) false g.O.Sequential.RISES c.load.ensures
