use Rattle.std.proofs.Common.{◌++◌, length, take, drop, sym, subst, ap, ◌∙◌}
use Rattle.std.specs.Prelude.{slice_range}
use Rattle.bitvec.specs.BitSpan.{span_of}
use Rattle.bitvec.specs.Span.{Span, Fits, list_of}
use Rattle.bitvec.proofs.BecomesLemmas.{fits-numbers}
use Rattle.bitvec_slice.specs.BitSliceMut.{lent_span, lent_words}
use Rattle.bitvec_slice.proofs.SpanEdits.{edit-named}
use Rattle.bitvec_slice.proofs.slice.bit_slice_mut.BitSliceMut.part.Goals as goal

pub returns-clause-fits : goal.returns-clause-fits
returns-clause-fits g c =
    let slice = c.args.self.now in
    let words = length slice.memory.now in
    c.range.ensures.fit words (subst (λ (s : Span). Fits g.R.BitRegister.BITS s words) (sym c.span.ensures) slice.fits)

pub returns-clause-list : goal.returns-clause-list
returns-clause-list g c =
    let width = g.R.BitRegister.BITS in
    let at = g.O.BitAt.at_of in
    let slice = c.args.self.now in
    let old = lent_words slice in
    let own = fits-numbers width (lent_span slice) g.R.BitRegister.number slice.memory.now slice.fits in
    let fits = subst (λ (s : Span). Fits width s (length old)) (sym c.span.ensures) own in
    c.range.ensures.list at old fits ∙ ap (λ (s : Span). slice_range (list_of width at s old) c.args.from c.args.to) c.span.ensures

pub returns-clause-edits : goal.returns-clause-edits
returns-clause-edits g c = λ new ys edit.
    let width = g.R.BitRegister.BITS in
    let at = g.O.BitAt.at_of in
    let slice = c.args.self.now in
    let old = lent_words slice in
    let own = fits-numbers width (lent_span slice) g.R.BitRegister.number slice.memory.now slice.fits in
    let fits = subst (λ (s : Span). Fits width s (length old)) (sym c.span.ensures) own in
    let bits = λ (s : Span). take c.args.from (list_of width at s old) ++ ys ++ drop c.args.to (list_of width at s old) in
    edit-named width at (span_of c.span.result) (lent_span slice) old new bits c.span.ensures (c.range.ensures.edits at old new ys fits edit)
