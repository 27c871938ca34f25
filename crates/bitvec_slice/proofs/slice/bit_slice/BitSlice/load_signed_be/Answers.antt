use Rattle.std.proofs.Common.{true, ◌<◌, ◌^◌, sym, subst, arith}
use Rattle.bitvec_slice.specs.BitSlice.{slice_span, slice_bits}
use Rattle.bitvec_slice.proofs.FieldLemmas.{field_below}
use Rattle.bitvec_slice.proofs.slice.bit_slice.BitSlice.load_signed_be.Goals as goal

pub signed_value-requires-clause-below : goal.signed_value-requires-clause-below
signed_value-requires-clause-below g c =
    let slice = c.args.self.now in
    let eight = g.met.R.BitRegister.width_at_least_8 in
    let below = field_below g.R.BitRegister.BITS (slice_span slice).head c.load_be.result (slice_bits slice) (omega (arith, eight)) (omega (arith, slice.span.in_word, eight)) true g.O.Sequential.RISES c.load_be.ensures.number in
    subst (λ k. c.load_be.result < 2 ^ k) (sym c.len.ensures.list) below
