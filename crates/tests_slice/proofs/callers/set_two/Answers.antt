use Rattle.std.proofs.Common.{rules, pos, sym, subst, ◌∙◌}
use Rattle.bitvec.specs.Span.{Span, Covers}
use Rattle.tests_slice.proofs.callers.set_two.Goals as goal

pub returns-clause-others : goal.returns-clause-others
returns-clause-others g c = λ place out.
    let width = g.R.BitRegister.BITS in
    let is = c.new_unchecked-slice.ensures.span in
    let first = c.set.ensures.bits.3.others place (subst (λ (s : Span). ¬ Covers width s (pos place)) (sym is) out) in
    let second = c.set-2.ensures.bits.3.others place (subst (λ (s : Span). ¬ Covers width s (pos place)) (sym (c.set.ensures.bits.1 ∙ is)) out) in
    search (rules, first, second)
