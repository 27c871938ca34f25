use Rattle.std.proofs.Common.{◌≡◌, ◌∙◌, ◌-◌, ◌*◌, length, take, ap, arith, ◌<◌, sym}
use Rattle.bitvec.specs.Span.{span_upto}
use Rattle.bitvec_slice.specs.BitSlice.{slice_span, slice_len, slice_bits}
use Rattle.bitvec_slice.proofs.IterLemmas.{range_upto}
use Rattle.bitvec_slice.specs.Pieces.{rchunks_of}
use Rattle.bitvec_slice.proofs.NthLemmas.{nth_item, nth_left, rchunks_take}
use Rattle.bitvec_slice.proofs.slice.chunks.RChunks.nth.Goals as goal

pub returns-clause-item : goal.returns-clause-item
returns-clause-item g c =
    let it = c.args.self.now in
    let xs = slice_bits it.rest in
    let cut : c.len-len.result - c.bits_in.result ≡ length (slice_bits it.rest) - c.args.n * it.size = omega (arith, c.bits_in.ensures, c.len-len.ensures.list) in
    let behind = ap (rchunks_of it.size) (c.split_at.ensures.front ∙ ap (λ l. take l xs) cut) ∙ rchunks_take it.size c.args.n xs it.some in
    nth_item slice_bits c.args.n _ _ _ behind c.next.result c.next.ensures.steps

pub returns-clause-left : goal.returns-clause-left
returns-clause-left g c =
    let it = c.args.self.now in
    let xs = slice_bits it.rest in
    let cut : c.len-len.result - c.bits_in.result ≡ length (slice_bits it.rest) - c.args.n * it.size = omega (arith, c.bits_in.ensures, c.len-len.ensures.list) in
    let behind = ap (rchunks_of it.size) (c.split_at.ensures.front ∙ ap (λ l. take l xs) cut) ∙ rchunks_take it.size c.args.n xs it.some in
    nth_left slice_bits c.args.n _ _ _ behind c.next.result c.next.ensures.steps

pub returns-clause-place : goal.returns-clause-place
returns-clause-place g c =
    let it = c.args.self.now in
    let left = slice_span it.rest in
    let width = g.R.BitRegister.BITS in
    let in_head : left.head < width = omega (arith, it.rest.span.in_word, g.met.R.BitRegister.width_at_least_8) in
    let cut : c.len-len.result - c.bits_in.result ≡ slice_len it.rest - c.args.n * it.size = omega (arith, c.bits_in.ensures, c.len-len.ensures.value) in
    let place = c.split_at.ensures.front_span ∙ ap (span_upto left) cut ∙ sym (range_upto width left (left.len - c.args.n * it.size) in_head) in
    (c.split_at.result.0, (c.split_at.ensures.front_memory, place), c.next.ensures.place)
