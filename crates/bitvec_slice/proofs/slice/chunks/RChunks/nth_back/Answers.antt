use Rattle.std.proofs.Common.{◌≡◌, ◌∙◌, ◌-◌, ◌*◌, min, length, drop, ap, arith}
use Rattle.bitvec.specs.Span.{span_from}
use Rattle.bitvec_slice.specs.BitSlice.{slice_span, slice_len, slice_bits}
use Rattle.bitvec_slice.specs.Pieces.{rchunks_of}
use Rattle.bitvec_slice.proofs.NthLemmas.{nth_back_item, nth_back_left, rchunks_drop}
use Rattle.bitvec_slice.proofs.slice.chunks.RChunks.nth_back.Goals as goal

pub returns-clause-item : goal.returns-clause-item
returns-clause-item g c =
    let it = c.args.self.now in
    let xs = slice_bits it.rest in
    let kept = length (rchunks_of it.size xs) - c.args.n in
    let many = c.saturating_sub-kept.ensures ∙ ap (λ l. l - c.args.n) c.len.ensures.value in
    let bits = c.bits_in.ensures ∙ ap (λ l. min (l * it.size) c.len-len.result) many in
    let cut : c.len-len.result - c.bits_in.result ≡ length (slice_bits it.rest) - kept * it.size = omega (arith, bits, c.len-len.ensures.list) in
    let behind = ap (rchunks_of it.size) (c.split_at.ensures.back ∙ ap (λ l. drop l xs) cut) ∙ rchunks_drop it.size kept xs it.some in
    nth_back_item slice_bits c.args.n _ _ _ behind c.next_back.result c.next_back.ensures.steps

pub returns-clause-left : goal.returns-clause-left
returns-clause-left g c =
    let it = c.args.self.now in
    let xs = slice_bits it.rest in
    let kept = length (rchunks_of it.size xs) - c.args.n in
    let many = c.saturating_sub-kept.ensures ∙ ap (λ l. l - c.args.n) c.len.ensures.value in
    let bits = c.bits_in.ensures ∙ ap (λ l. min (l * it.size) c.len-len.result) many in
    let cut : c.len-len.result - c.bits_in.result ≡ length (slice_bits it.rest) - kept * it.size = omega (arith, bits, c.len-len.ensures.list) in
    let behind = ap (rchunks_of it.size) (c.split_at.ensures.back ∙ ap (λ l. drop l xs) cut) ∙ rchunks_drop it.size kept xs it.some in
    nth_back_left slice_bits c.args.n _ _ _ behind c.next_back.result c.next_back.ensures.steps

pub returns-clause-place : goal.returns-clause-place
returns-clause-place g c =
    let it = c.args.self.now in
    let kept = length (rchunks_of it.size (slice_bits it.rest)) - c.args.n in
    let many = c.saturating_sub-kept.ensures ∙ ap (λ l. l - c.args.n) c.len.ensures.value in
    let bits = c.bits_in.ensures ∙ ap (λ l. min (l * it.size) c.len-len.result) many in
    let cut : c.len-len.result - c.bits_in.result ≡ slice_len it.rest - kept * it.size = omega (arith, bits, c.len-len.ensures.value) in
    let place = c.split_at.ensures.back_span ∙ ap (span_from g.R.BitRegister.BITS (slice_span it.rest)) cut in
    (c.split_at.result.1, (c.split_at.ensures.back_memory, place), c.next_back.ensures.place)
