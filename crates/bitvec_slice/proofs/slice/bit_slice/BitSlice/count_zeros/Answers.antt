use Rattle.std.proofs.Common.{length, arith}
use Rattle.bitvec.specs.Span.{element}
use Rattle.bitvec_slice.specs.BitSlice.{slice_bits}
use Rattle.bitvec.proofs.CountLemmas.{count_both}
use Rattle.bitvec_slice.proofs.slice.bit_slice.BitSlice.count_zeros.Goals as goal

pub overflow_sub-result : goal.overflow_sub-result
overflow_sub-result g c =
    let xs = slice_bits c.args.self.now in
    omega (arith, c.len.ensures, c.count_ones.ensures, count_both (element xs) (length xs))

pub returns : goal.returns
returns g c =
    let xs = slice_bits c.args.self.now in
    omega (arith, c.len.ensures, c.count_ones.ensures, count_both (element xs) (length xs))
