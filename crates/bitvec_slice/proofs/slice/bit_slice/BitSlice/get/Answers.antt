use Rattle.std.proofs.Common.{false, Some, sym, ap, ◌∙◌, arith}
use Rattle.std.proofs.lemmas.Option.{slice_get-get_or, slice_get_past}
use Rattle.bitvec_slice.specs.BitSlice.{slice_bits}
use Rattle.bitvec_slice.proofs.slice.bit_slice.BitSlice.get.Goals as goal

pub get_unchecked-requires : goal.get_unchecked-requires
get_unchecked-requires g c = omega (arith, c.len.ensures.value, c.if-i-len.true)

pub returns-then-i-len : goal.returns-then-i-len
returns-then-i-len g c =
    let xs = slice_bits c.args.self.now in
    ap Some c.get_unchecked.ensures ∙ sym (slice_get-get_or xs c.args.i false (omega (arith, c.len.ensures.list, c.if-i-len.true)))

pub returns-else-i-len : goal.returns-else-i-len
returns-else-i-len g c = sym (slice_get_past (slice_bits c.args.self.now) c.args.i (omega (arith, c.len.ensures.list, c.if-i-len.false)))
