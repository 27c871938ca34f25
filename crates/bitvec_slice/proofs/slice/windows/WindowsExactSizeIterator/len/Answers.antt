use Rattle.std.proofs.Common.{arith}
use Rattle.bitvec_slice.specs.BitSlice.{slice_bits}
use Rattle.bitvec_slice.proofs.PieceLemmas.{length-windows_of}
use Rattle.bitvec_slice.proofs.slice.windows.WindowsExactSizeIterator.len.Goals as goal

pub returns-clause-value : goal.returns-clause-value
returns-clause-value g c =
    let it = c.args.self.now in
    let xs = slice_bits it.rest in
    omega (arith, c.saturating_sub.ensures, c.len.ensures.list, length-windows_of it.size xs, it.some)
