use Rattle.std.proofs.Common.{map, refl}
use Rattle.bitvec.specs.BitSpan.{span_of}
use Rattle.bitvec.specs.Span.{Span}
use Rattle.std.proofs.Common.{replicate, sym, ap}
use Rattle.bitvec.proofs.BecomesLemmas.{becomes-same}
use Rattle.bitvec.proofs.PartLemmas.{length-list_of}
use Rattle.bitvec_slice.specs.BitSliceMut.{lent_span, lent_words}
use Rattle.bitvec_slice.proofs.SpanEdits.{edit-named}
use Rattle.bitvec_slice.proofs.slice.bit_slice_mut.BitSliceMut.fill.Goals as goal

pub returns : goal.returns
returns g c =
    let width = g.R.BitRegister.BITS in
    let at = g.O.BitAt.at_of in
    let number = g.R.BitRegister.number in
    let span = lent_span c.args.self.now in
    let old = lent_words c.args.self.now in
    let new = map number c.fill.new.memory in
    let bits = λ (s : Span). replicate s.len c.args.bit in
    let filled = edit-named width at (span_of c.span-span.result) span old new bits c.span-span.ensures c.fill.ensures in
    let edit = becomes-same width at span old new _ _ (ap (λ n. replicate n c.args.bit) (sym (length-list_of width at span old))) filled in
    (edit.list, refl, refl, edit)
