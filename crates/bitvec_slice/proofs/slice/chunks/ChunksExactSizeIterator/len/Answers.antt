use Rattle.std.proofs.Common.{◌∙◌, sym, ap}
use Rattle.std.specs.Slice.Iter.{chunk_count}
use Rattle.bitvec_slice.specs.BitSlice.{slice_bits}
use Rattle.bitvec_slice.proofs.PieceLemmas.{length-chunks_of}
use Rattle.bitvec_slice.proofs.slice.chunks.ChunksExactSizeIterator.len.Goals as goal

pub returns-clause-value : goal.returns-clause-value
returns-clause-value g c =
    let it = c.args.self.now in
    let xs = slice_bits it.rest in
    c.count_of.ensures ∙ ap (λ l. chunk_count l it.size) c.len.ensures.list ∙ sym (length-chunks_of it.size xs)
