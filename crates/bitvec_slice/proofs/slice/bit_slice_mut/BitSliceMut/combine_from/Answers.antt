use Rattle.std.proofs.Common.{◌≡◌, map, length, refl, arith}
use Rattle.bitvec.specs.BitSpan.{span_of}
use Rattle.bitvec.specs.Memory.{zip_with}
use Rattle.bitvec.specs.Span.{Span, list_of}
use Rattle.bitvec_slice.specs.BitSlice.{slice_memory, slice_bits}
use Rattle.bitvec_slice.specs.BitSliceMut.{lent_span, lent_words}
use Rattle.bitvec_slice.proofs.SameBitLemmas.{pairs_each}
use Rattle.bitvec_slice.proofs.SpanEdits.{edit-named}
use Rattle.bitvec_slice.proofs.slice.bit_slice_mut.BitSliceMut.combine_from.Goals as goal

pub returns : goal.returns
returns g c =
    let width = g.R.BitRegister.BITS in
    let at = g.O.BitAt.at_of in
    let number = g.R.BitRegister.number in
    let span = lent_span c.args.self.now in
    let old = lent_words c.args.self.now in
    let new = map number c.combine_from.new.memory in
    let bits = λ (s : Span). zip_with g.C.Combine.of (list_of width at s old) (slice_bits c.args.source) in
    let edit = edit-named width at (span_of c.span-span.result) span old new bits c.span-span.ensures c.combine_from.ensures in
    let ours = list_of width at span old in
    let source = c.args.source in
    let long : length ours ≡ length (slice_bits source) = omega (arith, c.requires, c.args.self.now.many old, source.many (map g.R2.BitRegister.number (slice_memory source))) in
    record {
      bits = (edit.list, refl, refl, edit);
      each = pairs_each g.C.Combine.of ours (slice_bits source) _ long edit.list;
    }
