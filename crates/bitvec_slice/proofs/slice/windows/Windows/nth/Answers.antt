use Rattle.std.proofs.Common.{◌∙◌, min, drop, ap}
use Rattle.std.proofs.lemmas.List.{drop_min}
use Rattle.bitvec.specs.Span.{span_from}
use Rattle.bitvec_slice.specs.BitSlice.{slice_span, slice_bits}
use Rattle.bitvec_slice.specs.Pieces.{windows_of}
use Rattle.bitvec_slice.proofs.NthLemmas.{nth_item, nth_left, windows_drop}
use Rattle.bitvec_slice.proofs.slice.windows.Windows.nth.Goals as goal

pub returns-clause-item : goal.returns-clause-item
returns-clause-item g c =
    let it = c.args.self.now in
    let xs = slice_bits it.rest in
    let cut = c.min.ensures ∙ ap (min c.args.n) c.len.ensures.list in
    let behind = ap (windows_of it.size) (c.split_at.ensures.back ∙ ap (λ l. drop l xs) cut ∙ drop_min c.args.n xs) ∙ windows_drop it.size c.args.n xs it.some in
    nth_item slice_bits c.args.n _ _ _ behind c.next.result c.next.ensures.steps

pub returns-clause-left : goal.returns-clause-left
returns-clause-left g c =
    let it = c.args.self.now in
    let xs = slice_bits it.rest in
    let cut = c.min.ensures ∙ ap (min c.args.n) c.len.ensures.list in
    let behind = ap (windows_of it.size) (c.split_at.ensures.back ∙ ap (λ l. drop l xs) cut ∙ drop_min c.args.n xs) ∙ windows_drop it.size c.args.n xs it.some in
    nth_left slice_bits c.args.n _ _ _ behind c.next.result c.next.ensures.steps

pub returns-clause-place : goal.returns-clause-place
returns-clause-place g c =
    let it = c.args.self.now in
    let cut = c.min.ensures ∙ ap (min c.args.n) c.len.ensures.value in
    let place = c.split_at.ensures.back_span ∙ ap (span_from g.R.BitRegister.BITS (slice_span it.rest)) cut in
    (c.split_at.result.1, (c.split_at.ensures.back_memory, place), c.next.ensures.place)
