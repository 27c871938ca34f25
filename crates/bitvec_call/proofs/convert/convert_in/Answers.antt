use Rattle.std.proofs.Common.{map, subst}
use Rattle.bitvec.specs.BitSpan.{span_of}
use Rattle.bitvec.specs.Span.{Span, BecomesList, list_of, span_at}
use Rattle.bitvec_call.proofs.convert.convert_in.Goals as goal

pub copy_from-requires-clause-fits : goal.copy_from-requires-clause-fits
copy_from-requires-clause-fits g c = c.span-here.ensures.fits _ c.requires.target_inside

pub copy_from-requires-clause-source_fits : goal.copy_from-requires-clause-source_fits
copy_from-requires-clause-source_fits g c = c.span-there.ensures.fits _ c.requires.source_inside

pub returns : goal.returns
returns g c =
    let bits = g.R.BitRegister.BITS in
    let old = map g.R.BitRegister.number c.args.target.now in
    let new = map g.R.BitRegister.number c.copy_from.new.memory in
    let other = map g.R2.BitRegister.number c.args.source.now in
    let bits2 = g.R2.BitRegister.BITS in
    let Made = λ (here there : Span).
    BecomesList bits g.O.BitAt.at_of here old new
    (list_of bits2 g.O2.BitAt.at_of there other) in
    let there = span_at bits2 c.args.from c.args.count in
    subst (λ (here : Span). Made here there) c.span-here.ensures.span
    (subst (λ (there : Span). Made (span_of c.span-here.result) there) c.span-there.ensures.span
    c.copy_from.ensures)
