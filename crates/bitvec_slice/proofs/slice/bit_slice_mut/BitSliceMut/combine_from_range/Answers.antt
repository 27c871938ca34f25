use Rattle.std.proofs.Common.{◌≡◌, ◌≤◌, ℕ, ◌+◌, ◌-◌, length, map, refl, subst, arith, ap, ◌∙◌}
use Rattle.std.specs.Prelude.{slice_range}
use Rattle.bitvec.specs.Memory.{zip_with}
use Rattle.bitvec.specs.Span.{BecomesList, list_of}
use Rattle.bitvec_slice.specs.BitSlice.{slice_memory, slice_bits}
use Rattle.bitvec_slice.specs.BitSliceMut.{lent_span, lent_words}
use Rattle.bitvec_slice.specs.Ranges.{with_range, KeepsStretches}
use Rattle.bitvec_slice.proofs.EditRangeLemmas.{range_long, range_edited}
use Rattle.bitvec.proofs.ZipLemmas.{length-zip_with}
use Rattle.bitvec_slice.proofs.slice.bit_slice_mut.BitSliceMut.combine_from_range.Goals as goal

pub returns : goal.returns
returns g c =
    let width = g.R.BitRegister.BITS in
    let at = g.O.BitAt.at_of in
    let slice = c.args.self.now in
    let span = lent_span slice in
    let old = lent_words slice in
    let new = map g.R.BitRegister.number c.combine_from.new.memory in
    let xs = list_of width at span old in
    let from = c.args.from in
    let to = from + c.len.result in
    let part = c.part-part.ensures in
    let theirs = slice_bits c.args.source in
    let long = c.args.source.many (map g.R2.BitRegister.number (slice_memory c.args.source)) in
    let rises : from ≤ to = omega arith in
    let inside : to ≤ span.len = omega (arith, c.requires, c.len.ensures.value) in
    let f = g.C.Combine.of in
    let ours = slice_range xs from to in
    let many : length ours ≡ to - from = range_long xs from to rises (omega (arith, inside, slice.many old)) in
    let paired : length (zip_with f ours theirs) ≡ to - from = length-zip_with f ours theirs (omega (arith, many, long, c.len.ensures.value)) ∙ many in
    let done = range_edited width at span old new from to _ (zip_with f ours theirs) (ap (λ us. zip_with f us theirs) part.list) rises inside paired (part.edits new _ c.combine_from.ensures) in
    let HasEdit = λ (n : ℕ). BecomesList width at span old new (with_range xs from (from + n) (zip_with f (slice_range xs from (from + n)) theirs)) × KeepsStretches from (from + n) xs (list_of width at span new) in
    let there = subst HasEdit c.len.ensures.value done in
    record { bits = (there.0.list, refl, refl, there.0); beside = there.1 }
