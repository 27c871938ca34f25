use Rattle.std.proofs.Common.{Bool, List, ◌++◌, length, drop, map, refl}
use Rattle.bitvec.specs.BitSpan.{span_of}
use Rattle.bitvec.specs.Memory.{zip_with}
use Rattle.bitvec.specs.Span.{Span, list_of}
use Rattle.bitvec_slice.specs.BitSlice.{slice_bits}
use Rattle.bitvec_slice.specs.BitSliceMut.{lent_span, lent_words}
use Rattle.bitvec_slice.proofs.SpanEdits.{edit-named}
use Rattle.bitvec_slice.proofs.slice.bit_slice_mut.BitSliceMut.combine_as_far.Goals as goal

pub returns : goal.returns
returns g c =
    let width = g.R.BitRegister.BITS in
    let at = g.O.BitAt.at_of in
    let number = g.R.BitRegister.number in
    let span = lent_span c.args.self.now in
    let old = lent_words c.args.self.now in
    let new = map number c.combine_common.new.memory in
    let ys = slice_bits c.args.source in
    let combined = λ (xs : List Bool). zip_with g.C.Combine.of xs ys ++ drop (length ys) xs in
    let bits = λ (s : Span). combined (list_of width at s old) in
    let edit = edit-named width at (span_of c.span-span.result) span old new bits c.span-span.ensures c.combine_common.ensures in
    (edit.list, refl, refl, edit)
