use Rattle.std.proofs.Common.{◌<◌, ◌∙◌, sym, arith}
use Rattle.bitvec_slice.specs.BitSlice.{slice_span, slice_bits}
use Rattle.bitvec_slice.specs.PieceIters.{windows_left}
use Rattle.bitvec_slice.proofs.IterLemmas.{range_upto}
use Rattle.bitvec_slice.proofs.PieceLemmas.{progress_first_by, windows_first}
use Rattle.bitvec_slice.proofs.slice.windows.WindowsIterator.next.Goals as goal

pub returns-clause-steps : goal.returns-clause-steps
returns-clause-steps g c =
    let it = c.args.self.now in
    let xs = slice_bits it.rest in
    windows_first it.size xs _ _ it.some (omega (arith, c.if-len-self.false, c.len.ensures.list)) c.split_at.ensures.front c.split_at-2.ensures.back

pub returns-clause-goes : goal.returns-clause-goes
returns-clause-goes g c = progress_first_by _ slice_bits windows_left _ _ _ tt (returns-clause-steps g c)

pub returns-clause-place : goal.returns-clause-place
returns-clause-place g c =
    let it = c.args.self.now in
    let width = g.R.BitRegister.BITS in
    let left = slice_span it.rest in
    let in_head : left.head < width = omega (arith, it.rest.span.in_word, g.met.R.BitRegister.width_at_least_8) in (
      (c.split_at.ensures.front_memory, c.split_at.ensures.front_span ∙ sym (range_upto width left it.size in_head)),
      (c.split_at-2.ensures.back_memory, c.split_at-2.ensures.back_span),
    )
