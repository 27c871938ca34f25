use Rattle.std.proofs.Common.{map, replicate, subst}
use Rattle.bitvec.specs.Span.{Span, BecomesList}
use Rattle.bitvec_call.proofs.fill.fill_in.Goals as goal

pub fill-requires : goal.fill-requires
fill-requires g c = c.span.ensures.fits _ c.requires.inside

pub returns : goal.returns
returns g c =
    let width = g.R.BitRegister.BITS in
    let at = g.O.BitAt.at_of in
    let old = map g.R.BitRegister.number c.args.memory.now in
    let new = map g.R.BitRegister.number c.fill.new.memory in
    subst (λ (s : Span). BecomesList width at s old new (replicate s.len c.args.bit)) c.span.ensures.span c.fill.ensures
