use Rattle.std.proofs.Common.{true, ap, ◌∙◌}
use Rattle.bitvec_mem.specs.Digit.{digit}
use Rattle.bitvec_mem.proofs.DigitLemmas.{digit_all}
use Rattle.bitvec_span.specs.PartialElementMut.{slot_in}
use Rattle.bitvec_span.proofs.EditLemmas.{edits_as}
use Rattle.bitvec_span.proofs.domain.partial_element_mut.PartialElementMut.set.Goals as goal

pub returns-clause-edit : goal.returns-clause-edit
returns-clause-edit g c =
    let width = g.R.BitRegister.BITS in
    let at = g.O.BitAt.at_of in
    let all = ap g.R.BitRegister.number c.ALL.ensures ∙ g.met.R.BitRegister.all_is_greatest in
    edits_as width at (slot_in c.args.self.now) _ (λ i. true) _ _ _
    (λ i h. ap (λ n. digit n (at i)) all ∙ digit_all width (at i) (g.met.O.BitOrder.one_to_one.below i h)) c.store_value.ensures.edit
