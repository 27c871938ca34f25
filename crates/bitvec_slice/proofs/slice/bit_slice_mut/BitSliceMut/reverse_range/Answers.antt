use Rattle.std.proofs.Common.{◌≤◌, length, map, refl, ap, arith, ◌∙◌}
use Rattle.std.specs.Prelude.{slice_range}
use Rattle.bitvec.specs.Span.{list_of}
use Rattle.bitvec_slice.specs.BitSliceMut.{lent_span, lent_words}
use Rattle.bitvec_slice.proofs.EditRangeLemmas.{range_long, range_edited}
use Rattle.std.specs.Prelude.{reverse}
use Rattle.std.proofs.lemmas.List.{length-reverse}
use Rattle.bitvec_slice.proofs.slice.bit_slice_mut.BitSliceMut.reverse_range.Goals as goal

pub returns : goal.returns
returns g c =
    let width = g.R.BitRegister.BITS in
    let at = g.O.BitAt.at_of in
    let slice = c.args.self.now in
    let span = lent_span slice in
    let old = lent_words slice in
    let new = map g.R.BitRegister.number c.reverse_bits.new.memory in
    let xs = list_of width at span old in
    let part = c.part-part.ensures in
    let inside : c.args.to ≤ length xs = omega (arith, c.requires.inside, slice.many old) in
    let long = length-reverse (slice_range xs c.args.from c.args.to) ∙ range_long xs c.args.from c.args.to c.requires.ordered inside in
    let done = range_edited width at span old new c.args.from (c.args.to) _ _ (ap reverse part.list) (c.requires.ordered) (c.requires.inside) long (part.edits new _ c.reverse_bits.ensures) in
    record { bits = (done.0.list, refl, refl, done.0); beside = done.1 }
