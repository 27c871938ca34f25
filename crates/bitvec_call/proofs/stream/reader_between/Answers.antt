use Rattle.std.proofs.Common.{◌-◌, length, map, ap, ◌∙◌}
use Rattle.bitvec.specs.Span.{Span, span_at}
use Rattle.bitvec.proofs.PartLemmas.{length-list_of}
use Rattle.bitvec_slice.specs.BitSlice.{slice_len}
use Rattle.bitvec_call.proofs.stream.reader_between.Goals as goal

pub returns-clause-rest : goal.returns-clause-rest
returns-clause-rest g c = c.new.ensures.rest ∙ c.bits.ensures.bits

pub returns-clause-source : goal.returns-clause-source
returns-clause-source g c =
    ap slice_len c.new.ensures.source ∙ ap (λ (s : Span). s.len) c.bits.ensures.span

pub returns-clause-len : goal.returns-clause-len
returns-clause-len g c =
    let bits = g.R.BitRegister.BITS in
    let span = span_at bits c.args.place (c.args.end - c.args.place) in
    ap length (c.new.ensures.rest ∙ c.bits.ensures.bits)
    ∙ length-list_of bits g.O.BitAt.at_of span (map g.R.BitRegister.number c.args.memory.now)
