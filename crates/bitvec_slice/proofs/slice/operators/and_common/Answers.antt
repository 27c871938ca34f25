use Rattle.std.proofs.Common.{◌≡◌, ◌≤◌, ◌<◌, false, ◌&&◌, ◌-◌, ◌++◌, map, length, take, drop, replicate, sym, subst, ◌∙◌, arith}
use Rattle.bitvec.specs.BitSpan.{span_of}
use Rattle.bitvec.specs.Span.{Fits, list_of}
use Rattle.bitvec.proofs.BecomesLemmas.{becomes-same, becomes-then, fits-numbers}
use Rattle.bitvec.proofs.PartLemmas.{length-list_of}
use Rattle.bitvec_slice.specs.BitSlice.{slice_bits}
use Rattle.bitvec_slice.proofs.SetLemmas.{no_rest, rest_replaced}
use Rattle.bitvec_slice.proofs.SpanEdits.{range-filled, words-many}
use Rattle.bitvec_slice.proofs.slice.operators.and_common.Goals as goal

pub fill-requires : goal.fill-requires
fill-requires g c =
    let number = g.R.BitRegister.number in
    let mid = c.combine_common.new.memory in
    let many = words-many number c.args.memory.now mid c.combine_common.ensures.words in
    c.range.ensures.fit (length mid) (subst (λ n. Fits g.R.BitRegister.BITS (span_of c.args.span) n) (sym many) c.requires.fits)

pub returns-then-common-len : goal.returns-then-common-len
returns-then-common-len g c =
    let width = g.R.BitRegister.BITS in
    let at = g.O.BitAt.at_of in
    let number = g.R.BitRegister.number in
    let span = span_of c.args.span in
    let old = map number c.args.memory.now in
    let mid = map number c.combine_common.new.memory in
    let new = map number c.fill.new.memory in
    let xs = list_of width at span old in
    let ys = slice_bits c.args.source in
    let common : c.len-common.result ≡ length ys = c.len-common.ensures.list in
    let len : c.len-len.result ≡ length xs = c.len-len.ensures ∙ sym (length-list_of width at span old) in
    let below : length ys < length xs = omega (arith, c.if-common-len.true, common, len) in
    let fits = subst (λ n. Fits width span n) (sym c.combine_common.ensures.words) (fits-numbers width span number c.args.memory.now c.requires.fits) in
    let edits = c.range.ensures.edits at mid new _ fits c.fill.ensures in
    let filled = range-filled width at span (span_of c.range.result) mid new c.len-common.result c.len-len.result false c.range.ensures.span edits in
    becomes-same width at span old new _ _
    ((λ m. take (common m) (c.combine_common.ensures.list m) ++ replicate (len m - common m) false ++ drop (len m) (c.combine_common.ensures.list m))
    ∙ rest_replaced (λ t s. t && s) xs ys false below)
    (becomes-then width at span old mid new _ _ c.combine_common.ensures filled)

pub returns-else-common-len : goal.returns-else-common-len
returns-else-common-len g c =
    let width = g.R.BitRegister.BITS in
    let at = g.O.BitAt.at_of in
    let number = g.R.BitRegister.number in
    let span = span_of c.args.span in
    let old = map number c.args.memory.now in
    let xs = list_of width at span old in
    let ys = slice_bits c.args.source in
    let most : length xs ≤ length ys = omega (arith, c.if-common-len.false, c.len-common.ensures.list, c.len-len.ensures, length-list_of width at span old) in
    becomes-same width at span old _ _ _ (no_rest (λ t s. t && s) xs ys false most) c.combine_common.ensures
