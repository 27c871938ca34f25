use Rattle.std.proofs.Common.{map, length}
use Rattle.bitvec_span.specs.BitSpan.{span_of}
use Rattle.bitvec_span.proofs.BecomesLemmas.{fits-numbers, moved-becomes, range-len}
use Rattle.bitvec_span.proofs.ptr.span.BitSpan.copy_within.Goals as goal

pub copy_to_range-requires-clause-same : goal.copy_to_range-requires-clause-same
copy_to_range-requires-clause-same g c =
    let width = g.R.BitRegister.BITS in
    let span = span_of c.args.self in
    range-len width span c.args.from c.args.to c.args.count _ _ c.range-source.ensures.span c.range-target.ensures.span

pub copy_to_range-requires-clause-source_fits : goal.copy_to_range-requires-clause-source_fits
copy_to_range-requires-clause-source_fits g c = c.range-source.ensures.fit (length c.args.memory.now) c.requires.fits

pub copy_to_range-requires-clause-fits : goal.copy_to_range-requires-clause-fits
copy_to_range-requires-clause-fits g c = c.range-target.ensures.fit (length c.args.memory.now) c.requires.fits

pub returns : goal.returns
returns g c =
    let width = g.R.BitRegister.BITS in
    let number = g.R.BitRegister.number in
    let at = g.O.BitAt.at_of in
    let span = span_of c.args.self in
    let memory = map number c.args.memory.now in
    let fits = fits-numbers width span number c.args.memory.now c.requires.fits in
    moved-becomes width at span memory _ c.args.from c.args.to c.args.count _ (c.range-source.ensures.list at memory fits)
    (c.range-target.ensures.edits at memory _ _ fits c.copy_to_range.ensures)
