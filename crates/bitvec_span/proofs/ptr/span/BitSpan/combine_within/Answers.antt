use Rattle.std.proofs.Common.{map, length}
use Rattle.bitvec_span.specs.BitSpan.{span_of}
use Rattle.bitvec_span.proofs.BecomesLemmas.{fits-numbers, range-len}
use Rattle.bitvec_span.proofs.CombineSpanLemmas.{range-combines}
use Rattle.bitvec_span.proofs.ptr.span.BitSpan.combine_within.Goals as goal

pub combine_to_range-requires-clause-same : goal.combine_to_range-requires-clause-same
combine_to_range-requires-clause-same g c =
    let width = g.R.BitRegister.BITS in
    let span = span_of c.args.self in
    range-len width span c.args.from c.args.to c.args.count _ _ c.range-source.ensures.span c.range-target.ensures.span

pub combine_to_range-requires-clause-source_fits : goal.combine_to_range-requires-clause-source_fits
combine_to_range-requires-clause-source_fits g c = c.range-source.ensures.fit (length c.args.memory.now) c.requires.fits

pub combine_to_range-requires-clause-fits : goal.combine_to_range-requires-clause-fits
combine_to_range-requires-clause-fits g c = c.range-target.ensures.fit (length c.args.memory.now) c.requires.fits

pub returns : goal.returns
returns g c =
    let width = g.R.BitRegister.BITS in
    let number = g.R.BitRegister.number in
    let at = g.O.BitAt.at_of in
    let span = span_of c.args.self in
    let memory = map number c.args.memory.now in
    let fits = fits-numbers width span number c.args.memory.now c.requires.fits in
    range-combines g.C.Combine.of width at span memory _ c.args.from c.args.to c.args.count _ _ (c.range-target.ensures.list at memory fits) (c.range-source.ensures.list at memory fits)
    (c.range-target.ensures.edits at memory _ _ fits c.combine_to_range.ensures)
