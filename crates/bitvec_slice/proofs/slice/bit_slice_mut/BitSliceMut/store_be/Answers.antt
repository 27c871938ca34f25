use Rattle.std.proofs.Common.{true, map, length, refl, sym, arith}
use Rattle.bitvec.specs.BitSpan.{span_of}
use Rattle.bitvec.specs.Span.{Span, list_of}
use Rattle.bitvec_slice.specs.BitSliceMut.{lent_span, lent_words}
use Rattle.bitvec_slice.specs.Field.{field_list}
use Rattle.bitvec_slice.proofs.SpanEdits.{edit-named, len-is}
use Rattle.bitvec_slice.proofs.slice.bit_slice_mut.BitSliceMut.store_be.Goals as goal

pub store-requires-clause-small : goal.store-requires-clause-small
store-requires-clause-small g c =
    let given = span_of c.span-span.result in
    let slice = c.args.self.now in
    let long = len-is g.R.BitRegister.BITS g.O.BitAt.at_of (lent_span slice) given (lent_words slice) (sym c.span-span.ensures) in
    omega (arith, long, c.requires)

pub returns-clause-stored : goal.returns-clause-stored
returns-clause-stored g c =
    let width = g.R.BitRegister.BITS in
    let at = g.O.BitAt.at_of in
    let old = lent_words c.args.self.now in
    let new = map g.R.BitRegister.number c.store.new.memory in
    let value = g.N.BitRegister.number c.args.value in
    let bits = λ (s : Span). field_list true width g.O.Sequential.RISES s.head (length (list_of width at s old)) value in
    let span = lent_span c.args.self.now in
    let edit = edit-named width at (span_of c.span-span.result) span old new bits c.span-span.ensures c.store.ensures.stored in
    (edit.list, refl, refl, edit)
