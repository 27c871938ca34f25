use Rattle.std.proofs.Common.{◌<◌, ◌-◌, ◌∙◌, take, drop, sym, ap, arith}
use Rattle.bitvec.specs.Span.{span_from, span_upto}
use Rattle.bitvec_slice.specs.BitSlice.{slice_span, slice_bits}
use Rattle.bitvec_slice.specs.PieceIters.{rchunks_left}
use Rattle.bitvec_slice.proofs.IterLemmas.{range_upto}
use Rattle.bitvec_slice.proofs.PieceLemmas.{progress_first_by, rchunks_first}
use Rattle.bitvec_slice.proofs.slice.chunks.RChunksIterator.next.Goals as goal

pub returns-clause-steps : goal.returns-clause-steps
returns-clause-steps g c =
    let it = c.args.self.now in
    let xs = slice_bits it.rest in
    let many = c.len-len.ensures.list in
    let count = c.saturating_sub.ensures ∙ ap (λ l. l - it.size) many in
    let first = c.split_at.ensures.back ∙ ap (λ l. drop l xs) count in
    let rest = c.split_at.ensures.front ∙ ap (λ l. take l xs) count in
    rchunks_first it.size xs _ _ it.some (omega (arith, c.if-len-eq0.false, many)) first rest

pub returns-clause-goes : goal.returns-clause-goes
returns-clause-goes g c = progress_first_by _ slice_bits rchunks_left _ _ _ tt (returns-clause-steps g c)

pub returns-clause-place : goal.returns-clause-place
returns-clause-place g c =
    let it = c.args.self.now in
    let width = g.R.BitRegister.BITS in
    let left = slice_span it.rest in
    let in_head : left.head < width = omega (arith, it.rest.span.in_word, g.met.R.BitRegister.width_at_least_8) in
    let cut = c.saturating_sub.ensures ∙ ap (λ l. l - it.size) c.len-len.ensures.value in (
      (c.split_at.ensures.back_memory, c.split_at.ensures.back_span ∙ ap (span_from width left) cut),
      (c.split_at.ensures.front_memory, c.split_at.ensures.front_span ∙ ap (span_upto left) cut ∙ sym (range_upto width left (left.len - it.size) in_head)),
    )
