use Rattle.std.proofs.Common.{map, refl}
use Rattle.bitvec.specs.BitSpan.{span_of}
use Rattle.bitvec.specs.Span.{Span, list_of}
use Rattle.std.specs.Prelude.{slice_set}
use Rattle.bitvec_slice.specs.BitSliceMut.{lent_span, lent_words}
use Rattle.bitvec_slice.proofs.SpanEdits.{edit-named}
use Rattle.bitvec_slice.proofs.slice.bit_slice_mut.BitSliceMut.set.Goals as goal

pub returns-clause-bits : goal.returns-clause-bits
returns-clause-bits g c =
    let width = g.R.BitRegister.BITS in
    let at = g.O.BitAt.at_of in
    let number = g.R.BitRegister.number in
    let span = lent_span c.args.self.now in
    let old = lent_words c.args.self.now in
    let new = map number c.put_bit.new.memory in
    let bits = λ (s : Span). slice_set (list_of width at s old) c.args.i c.args.bit in
    let edit = edit-named width at (span_of c.span-span.result) span old new bits c.span-span.ensures c.put_bit.ensures in
    (edit.list, refl, refl, edit)
