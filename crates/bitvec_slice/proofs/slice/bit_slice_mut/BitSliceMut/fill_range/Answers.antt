use Rattle.std.proofs.Common.{Bool, List, map, refl}
use Rattle.bitvec.specs.BitSpan.{span_of}
use Rattle.bitvec.specs.Span.{Span, list_of}
use Rattle.std.proofs.Common.{◌≤◌, ◌++◌, ◌-◌, arith, length, take, drop, replicate, subst, sym}
use Rattle.bitvec.specs.Span.{Fits}
use Rattle.bitvec.proofs.BecomesLemmas.{fits-numbers}
use Rattle.bitvec_slice.proofs.EditRangeLemmas.{fill_shows, fill_keeps}
use Rattle.bitvec_slice.proofs.SpanEdits.{range-filled}
use Rattle.bitvec_slice.specs.BitSliceMut.{lent_span, lent_words}
use Rattle.bitvec_slice.proofs.SpanEdits.{edit-named}
use Rattle.bitvec_slice.proofs.slice.bit_slice_mut.BitSliceMut.fill_range.Goals as goal

pub fill-requires : goal.fill-requires
fill-requires g c =
    let slice = c.args.self.now in
    let words = length slice.memory.now in
    c.range.ensures.fit words (subst (λ (s : Span). Fits g.R.BitRegister.BITS s words) (sym c.span-span.ensures) slice.fits)

pub returns : goal.returns
returns g c =
    let width = g.R.BitRegister.BITS in
    let at = g.O.BitAt.at_of in
    let number = g.R.BitRegister.number in
    let span = lent_span c.args.self.now in
    let old = lent_words c.args.self.now in
    let new = map number c.fill.new.memory in
    let given = span_of c.span-span.result in
    let slice = c.args.self.now in
    let own = fits-numbers width span number slice.memory.now slice.fits in
    let fits = subst (λ (s : Span). Fits width s (length old)) (sym c.span-span.ensures) own in
    let edits = c.range.ensures.edits at old new _ fits c.fill.ensures in
    let part = span_of c.range.result in
    let filled = range-filled width at given part old new c.args.from c.args.to c.args.bit c.range.ensures.span edits in
    let put = λ (xs : List Bool). take c.args.from xs ++ replicate (c.args.to - c.args.from) c.args.bit ++ drop c.args.to xs in
    let bits = λ (s : Span). put (list_of width at s old) in
    let edit = edit-named width at (span_of c.span-span.result) span old new bits c.span-span.ensures filled in
    let xs : List Bool = list_of width at span old in
    let long : c.args.to ≤ length xs = omega (arith, c.requires.inside, slice.many old) in
    record {
      bits = (edit.list, refl, refl, edit);
      filled = fill_shows xs _ c.args.from c.args.to c.args.bit c.requires.ordered long edit.list;
      beside = fill_keeps xs _ c.args.from c.args.to c.args.bit c.requires.ordered long edit.list;
    }
