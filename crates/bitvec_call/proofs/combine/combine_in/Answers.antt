use Rattle.std.proofs.Common.{map, subst}
use Rattle.bitvec.specs.BitSpan.{span_of}
use Rattle.bitvec.specs.Memory.{zip_with}
use Rattle.bitvec.specs.Span.{Span, BecomesList, list_of, span_at}
use Rattle.bitvec_call.proofs.combine.combine_in.Goals as goal

pub combine_from-requires-clause-fits : goal.combine_from-requires-clause-fits
combine_from-requires-clause-fits g c = c.span-here.ensures.fits _ c.requires.target_inside

pub combine_from-requires-clause-source_fits : goal.combine_from-requires-clause-source_fits
combine_from-requires-clause-source_fits g c = c.span-there.ensures.fits _ c.requires.source_inside

pub returns : goal.returns
returns g c =
    let bits = g.R.BitRegister.BITS in
    let at = g.O.BitAt.at_of in
    let old = map g.R.BitRegister.number c.args.target.now in
    let new = map g.R.BitRegister.number c.combine_from.new.memory in
    let other = map g.R2.BitRegister.number c.args.source.now in
    let bits2 = g.R2.BitRegister.BITS in
    let list = λ (there : Span). list_of bits2 g.O2.BitAt.at_of there other in
    let Made = λ (here there : Span).
    BecomesList bits at here old new
    (zip_with g.C.Combine.of (list_of bits at here old) (list there)) in
    let there = span_at bits2 c.args.from c.args.count in
    subst (λ (here : Span). Made here there) c.span-here.ensures.span
    (subst (λ (there : Span). Made (span_of c.span-here.result) there) c.span-there.ensures.span
    c.combine_from.ensures)
