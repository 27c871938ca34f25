use Rattle.std.proofs.Common.{◌∙◌, ◌-◌, ◌*◌, min, length, take, ap, ◌<◌, sym, arith}
use Rattle.std.proofs.lemmas.List.{take_min}
use Rattle.bitvec.specs.Span.{span_upto}
use Rattle.bitvec_slice.specs.BitSlice.{slice_span, slice_bits}
use Rattle.bitvec_slice.proofs.IterLemmas.{range_upto}
use Rattle.bitvec_slice.specs.Pieces.{chunks_of}
use Rattle.bitvec_slice.proofs.NthLemmas.{nth_back_item, nth_back_left, chunks_take}
use Rattle.bitvec_slice.proofs.slice.chunks.Chunks.nth_back.Goals as goal

pub returns-clause-item : goal.returns-clause-item
returns-clause-item g c =
    let it = c.args.self.now in
    let xs = slice_bits it.rest in
    let kept = length (chunks_of it.size xs) - c.args.n in
    let many = c.saturating_sub-kept.ensures ∙ ap (λ l. l - c.args.n) c.len.ensures.value in
    let cut = c.bits_in.ensures ∙ ap (λ l. min (l * it.size) c.len-2.result) many ∙ ap (min (kept * it.size)) c.len-2.ensures.list in
    let before = ap (chunks_of it.size) (c.split_at.ensures.front ∙ ap (λ l. take l xs) cut ∙ take_min (kept * it.size) xs) ∙ chunks_take it.size kept xs it.some in
    nth_back_item slice_bits c.args.n _ _ _ before c.next_back.result c.next_back.ensures.steps

pub returns-clause-left : goal.returns-clause-left
returns-clause-left g c =
    let it = c.args.self.now in
    let xs = slice_bits it.rest in
    let kept = length (chunks_of it.size xs) - c.args.n in
    let many = c.saturating_sub-kept.ensures ∙ ap (λ l. l - c.args.n) c.len.ensures.value in
    let cut = c.bits_in.ensures ∙ ap (λ l. min (l * it.size) c.len-2.result) many ∙ ap (min (kept * it.size)) c.len-2.ensures.list in
    let before = ap (chunks_of it.size) (c.split_at.ensures.front ∙ ap (λ l. take l xs) cut ∙ take_min (kept * it.size) xs) ∙ chunks_take it.size kept xs it.some in
    nth_back_left slice_bits c.args.n _ _ _ before c.next_back.result c.next_back.ensures.steps

pub returns-clause-place : goal.returns-clause-place
returns-clause-place g c =
    let it = c.args.self.now in
    let left = slice_span it.rest in
    let width = g.R.BitRegister.BITS in
    let in_head : left.head < width = omega (arith, it.rest.span.in_word, g.met.R.BitRegister.width_at_least_8) in
    let kept = length (chunks_of it.size (slice_bits it.rest)) - c.args.n in
    let many = c.saturating_sub-kept.ensures ∙ ap (λ l. l - c.args.n) c.len.ensures.value in
    let cut = c.bits_in.ensures ∙ ap (λ l. min (l * it.size) c.len-2.result) many ∙ ap (min (kept * it.size)) c.len-2.ensures.value in
    let place = c.split_at.ensures.front_span ∙ ap (span_upto left) cut ∙ sym (range_upto width left (min (kept * it.size) left.len) in_head) in
    (c.split_at.result.0, (c.split_at.ensures.front_memory, place), c.next_back.ensures.place)
