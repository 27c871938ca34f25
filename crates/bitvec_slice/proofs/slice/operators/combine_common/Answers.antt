use Rattle.std.proofs.Common.{◌≡◌, ◌-◌, ◌++◌, min, map, length, take, drop, ap, sym, ◌∙◌, arith}
use Rattle.bitvec.specs.BitSpan.{span_of}
use Rattle.bitvec.specs.Memory.{zip_with}
use Rattle.bitvec.specs.Span.{list_of}
use Rattle.bitvec.proofs.BecomesLemmas.{becomes-same, fits-numbers}
use Rattle.bitvec.proofs.PartLemmas.{length-list_of}
use Rattle.bitvec_slice.specs.BitSlice.{slice_bits, slice_span, slice_memory}
use Rattle.bitvec_slice.proofs.SetLemmas.{as_far}
use Rattle.bitvec_slice.proofs.slice.operators.combine_common.Goals as goal

pub combine_from-requires-clause-source_fits : goal.combine_from-requires-clause-source_fits
combine_from-requires-clause-source_fits g c = c.range.ensures.fit (length (slice_memory c.args.source)) c.args.source.fits

pub combine_from-requires-clause-fits : goal.combine_from-requires-clause-fits
combine_from-requires-clause-fits g c = c.range-target.ensures.fit (length c.args.memory.now) c.requires.fits

pub returns : goal.returns
returns g c =
    let width = g.R.BitRegister.BITS in
    let at = g.O.BitAt.at_of in
    let f = g.C.Combine.of in
    let number = g.R.BitRegister.number in
    let span = span_of c.args.span in
    let source = c.args.source in
    let old = map number c.args.memory.now in
    let theirs = map g.R2.BitRegister.number (slice_memory source) in
    let xs = list_of width at span old in
    let ys = slice_bits source in
    let n = c.min-count.result in
    let all : n - 0 ≡ n = omega arith in
    let least : n ≡ min (length xs) (length ys) =
    c.min-count.ensures ∙ (λ m. min ((c.len.ensures ∙ sym (length-list_of width at span old)) m) (c.len-2.ensures.list m)) in
    let fits = fits-numbers width span number c.args.memory.now c.requires.fits in
    let other_fits = fits-numbers g.R2.BitRegister.BITS (slice_span source) g.R2.BitRegister.number (slice_memory source) source.fits in
    let here = c.range-target.ensures.list at old fits ∙ ap (λ k. take k xs) all in
    let there = c.range.ensures.list g.O2.BitAt.at_of theirs other_fits ∙ ap (λ k. take k ys) all in
    becomes-same width at span old _ _ _
    (ap (λ zs. zs ++ drop n xs) (λ m. zip_with f (here m) (there m)) ∙ as_far f xs ys n least)
    (c.range-target.ensures.edits at old _ _ fits c.combine_from.ensures)
