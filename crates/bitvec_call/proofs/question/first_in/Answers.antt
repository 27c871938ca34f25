use Rattle.std.proofs.Common.{true, false, map, refl, inl, inr, subst}
use Rattle.bitvec.specs.BitSpan.{span_of}
use Rattle.bitvec.specs.Memory.{zip_with}
use Rattle.bitvec.specs.Span.{Span, list_of, span_at}
use Rattle.bitvec.specs.Truths.{AllAre, IsFirst}
use Rattle.bitvec_call.proofs.question.first_in.Goals as goal

pub first_with-requires-clause-fits : goal.first_with-requires-clause-fits
first_with-requires-clause-fits g c = c.span-here.ensures.fits _ c.requires.inside

pub first_with-requires-clause-other_fits : goal.first_with-requires-clause-other_fits
first_with-requires-clause-other_fits g c = c.span-there.ensures.fits _ c.requires.other_inside

pub returns-in-None : goal.returns-in-None
returns-in-None g c =
    let bits = g.R.BitRegister.BITS in
    let bits2 = g.R2.BitRegister.BITS in
    let words = map g.R.BitRegister.number c.args.memory.now in
    let others = map g.R2.BitRegister.number c.args.other.now in
    let None = λ (here there : Span).
    AllAre false (zip_with g.C.Combine.of (list_of bits g.O.BitAt.at_of here words)
    (list_of bits2 g.O2.BitAt.at_of there others)) in
    let there = span_at bits2 c.args.other_start c.args.count in
    let first = subst (λ (there : Span). None (span_of c.span-here.result) there)
    c.span-there.ensures.span c.in-None.ensures in
    inr (subst (λ (here : Span). None here there) c.span-here.ensures.span first, refl)

pub returns-in-Some : goal.returns-in-Some
returns-in-Some g c =
    let bits = g.R.BitRegister.BITS in
    let bits2 = g.R2.BitRegister.BITS in
    let words = map g.R.BitRegister.number c.args.memory.now in
    let others = map g.R2.BitRegister.number c.args.other.now in
    let Found = λ (here there : Span).
    IsFirst true (zip_with g.C.Combine.of (list_of bits g.O.BitAt.at_of here words)
    (list_of bits2 g.O2.BitAt.at_of there others)) c.in-Some.i in
    let there = span_at bits2 c.args.other_start c.args.count in
    let first = subst (λ (there : Span). Found (span_of c.span-here.result) there)
    c.span-there.ensures.span c.in-Some.ensures in
    inl (subst (λ (here : Span). Found here there) c.span-here.ensures.span first)
