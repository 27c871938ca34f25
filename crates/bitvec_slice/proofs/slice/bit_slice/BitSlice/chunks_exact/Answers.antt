use Rattle.std.proofs.Common.{◌-◌, ◌%◌, sym, ap, ◌∙◌, arith}
use Rattle.bitvec.specs.Span.{span_upto}
use Rattle.bitvec_slice.specs.BitSlice.{slice_memory, slice_span}
use Rattle.bitvec_slice.proofs.IterLemmas.{range_upto}
use Rattle.bitvec_slice.proofs.slice.bit_slice.BitSlice.chunks_exact.Goals as goal

pub returns-clause-rest : goal.returns-clause-rest
returns-clause-rest g c =
    let slice = c.args.self.now in
    let all = slice_span slice in
    let cut = ap (λ l. l - l % c.args.n) c.len-len.ensures.value in
    let front = range_upto g.R.BitRegister.BITS all (all.len - all.len % c.args.n) (omega (arith, slice.span.in_word, g.met.R.BitRegister.width_at_least_8)) in
    (ap slice_memory c.chunks.ensures.rest ∙ c.split_at.ensures.front_memory, ap slice_span c.chunks.ensures.rest ∙ c.split_at.ensures.front_span ∙ ap (span_upto all) cut ∙ sym front)
