use Rattle.std.proofs.Common.{◌≡◌, ◌≤◌, ℕ, ◌+◌, ◌-◌, length, map, refl, subst, arith}
use Rattle.bitvec.specs.Span.{BecomesList, list_of}
use Rattle.bitvec_slice.specs.BitSlice.{slice_memory, slice_bits}
use Rattle.bitvec_slice.specs.BitSliceMut.{lent_span, lent_words}
use Rattle.bitvec_slice.specs.Ranges.{with_range, KeepsStretches}
use Rattle.bitvec_slice.proofs.EditRangeLemmas.{range_edited}
use Rattle.bitvec_slice.proofs.slice.bit_slice_mut.BitSliceMut.copy_from_range.Goals as goal

pub returns : goal.returns
returns g c =
    let width = g.R.BitRegister.BITS in
    let at = g.O.BitAt.at_of in
    let slice = c.args.self.now in
    let span = lent_span slice in
    let old = lent_words slice in
    let new = map g.R.BitRegister.number c.copy_from.new.memory in
    let xs = list_of width at span old in
    let from = c.args.from in
    let to = from + c.len.result in
    let part = c.part-part.ensures in
    let theirs = slice_bits c.args.source in
    let long = c.args.source.many (map g.R2.BitRegister.number (slice_memory c.args.source)) in
    let rises : from ≤ to = omega arith in
    let inside : to ≤ span.len = omega (arith, c.requires, c.len.ensures.value) in
    let many : length theirs ≡ to - from = omega (arith, long, c.len.ensures.value) in
    let done = range_edited width at span old new from to theirs theirs refl rises inside many (part.edits new theirs c.copy_from.ensures) in
    let HasEdit = λ (n : ℕ). BecomesList width at span old new (with_range xs from (from + n) theirs) × KeepsStretches from (from + n) xs (list_of width at span new) in
    let there = subst HasEdit c.len.ensures.value done in
    record { bits = (there.0.list, refl, refl, there.0); beside = there.1 }
