use Rattle.std.proofs.Common.{◌≡◌, ◌≤◌, false, map, length, sym, subst, refl, arith}
use Rattle.bitvec.specs.BitSpan.{span_of}
use Rattle.bitvec.specs.Span.{Fits, list_of}
use Rattle.bitvec.proofs.BecomesLemmas.{becomes-same, becomes-then, fits-numbers}
use Rattle.bitvec.proofs.PartLemmas.{length-list_of}
use Rattle.bitvec_slice.proofs.ListEdits.{shifted_right}
use Rattle.bitvec_slice.proofs.SpanEdits.{range-filled, words-many}
use Rattle.bitvec_slice.proofs.slice.moves.shift_bits_right.Goals as goal

pub fill-requires : goal.fill-requires
fill-requires g c =
    let number = g.R.BitRegister.number in
    let moved = c.copy_within.new.memory in
    let many = words-many number c.args.memory.now moved c.copy_within.ensures.words in
    c.range.ensures.fit (length moved) (subst (λ n. Fits g.R.BitRegister.BITS (span_of c.args.span) n) (sym many) c.requires.fits)

pub returns : goal.returns
returns g c =
    let width = g.R.BitRegister.BITS in
    let at = g.O.BitAt.at_of in
    let number = g.R.BitRegister.number in
    let span = span_of c.args.span in
    let old = map number c.args.memory.now in
    let moved = map number c.copy_within.new.memory in
    let new = map number c.fill.new.memory in
    let xs = list_of width at span old in
    let ys = list_of width at span moved in
    let long = length-list_of width at span old in
    let all : length xs ≡ c.len-len.result = omega (arith, long, c.len-len.ensures) in
    let within : c.args.by ≤ c.len-len.result = omega (arith, c.len-len.ensures, c.requires.inside) in
    let own = fits-numbers width span number c.args.memory.now c.requires.fits in
    let fits = subst (λ n. Fits width span n) (sym c.copy_within.ensures.words) own in
    let edits = c.range.ensures.edits at moved new _ fits c.fill.ensures in
    let filled = range-filled width at span (span_of c.range.result) moved new 0 c.args.by false c.range.ensures.span edits in
    becomes-same width at span old new _ _ (shifted_right c.len-len.result c.args.by xs ys _ all within c.copy_within.ensures.list refl)
    (becomes-then width at span old moved new _ _ c.copy_within.ensures filled)
