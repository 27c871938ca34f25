use Rattle.std.proofs.Common.{◌<◌, ◌-◌, ◌∙◌, take, drop, sym, ap, arith}
use Rattle.bitvec.specs.Span.{span_from, span_upto}
use Rattle.bitvec_slice.specs.BitSlice.{slice_span, slice_bits}
use Rattle.bitvec_slice.specs.PieceIters.{windows_left}
use Rattle.bitvec_slice.proofs.IterLemmas.{range_upto}
use Rattle.bitvec_slice.proofs.PieceLemmas.{progress_last_by, windows_last}
use Rattle.bitvec_slice.proofs.slice.windows.WindowsDoubleEndedIterator.next_back.Goals as goal

pub returns-clause-steps : goal.returns-clause-steps
returns-clause-steps g c =
    let it = c.args.self.now in
    let xs = slice_bits it.rest in
    let many = c.len-len.ensures.list in
    let last = c.split_at.ensures.back ∙ ap (λ l. drop (l - it.size) xs) many in
    let rest = c.split_at-2.ensures.front ∙ ap (λ l. take (l - 1) xs) many in
    windows_last it.size xs _ _ it.some (omega (arith, c.if-len-self.false, many)) last rest

pub returns-clause-goes : goal.returns-clause-goes
returns-clause-goes g c = progress_last_by _ slice_bits windows_left _ _ _ tt (returns-clause-steps g c)

pub returns-clause-place : goal.returns-clause-place
returns-clause-place g c =
    let it = c.args.self.now in
    let width = g.R.BitRegister.BITS in
    let left = slice_span it.rest in
    let in_head : left.head < width = omega (arith, it.rest.span.in_word, g.met.R.BitRegister.width_at_least_8) in
    let many = c.len-len.ensures.value in (
      (c.split_at.ensures.back_memory, c.split_at.ensures.back_span ∙ ap (λ l. span_from width left (l - it.size)) many),
      (c.split_at-2.ensures.front_memory, c.split_at-2.ensures.front_span ∙ ap (λ l. span_upto left (l - 1)) many ∙ sym (range_upto width left (left.len - 1) in_head)),
    )
