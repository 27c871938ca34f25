use Rattle.std.proofs.Common.{rules, pos, sym, subst, ◌∙◌}
use Rattle.bitvec.specs.Span.{Span, Covers}
use Rattle.tests_slice.proofs.sets.unite.Goals as goal

pub returns-clause-others : goal.returns-clause-others
returns-clause-others g c = λ place out.
    let width = g.R.BitRegister.BITS in
    let is = c.new_unchecked-slice.ensures.span in
    let united = c.or_from.ensures.bits.3.others place (subst (λ (s : Span). ¬ Covers width s (pos place)) (sym is) out) in
    search (rules, united)
