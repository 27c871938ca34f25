use Rattle.std.proofs.Common.{ℕ, ◌∷◌, [], rules, map, subst, sym, ap}
use Rattle.std.proofs.lemmas.List.{length-map}
use Rattle.bitvec.specs.BitSpan.{span_of}
use Rattle.bitvec.specs.Span.{Fits}
use Rattle.bitvec.proofs.AppendedRuns.{run-more}
use Rattle.tests_slice.proofs.SliceRunLemmas.{set-one, set-as, run-from}
use Rattle.tests_slice.proofs.callers.set_and_run.Goals as goal

pub returns : goal.returns
returns g c =
    let number = g.R.BitRegister.number in
    let bits = g.R.BitRegister.BITS in
    let at = g.O.BitAt.at_of in
    let span = c.args.span in
    let i = c.args.i in
    let bit = c.args.bit in
    let old = map number c.args.memory.now in
    let fits =
    subst (λ (n : ℕ). Fits bits (span_of span) n)
    (sym (length-map c.args.memory.now number)) c.requires.fits in
    run-more number bits at span_of (span ∷ []) old _ _ _ _ _ _
    (set-one number bits at span_of span old _ i bit fits c.requires.inside
    (set-as bits at _ (span_of span) _ old _ i bit c.set.ensures.bits.3
    c.new_unchecked-slice.ensures.span (ap (map number) c.new_unchecked-slice.ensures.memory)))
    (run-from number bits at span_of (span ∷ []) _ _ _ _ _ c.run.ensures (search rules))
