use Rattle.std.proofs.Common.{false, ap, ◌∙◌}
use Rattle.bitvec_mem.specs.Digit.{digit}
use Rattle.bitvec_mem.proofs.DigitLemmas.{digit-zero}
use Rattle.bitvec_span.specs.PartialElementMut.{slot_in}
use Rattle.bitvec_span.proofs.EditLemmas.{edits_as}
use Rattle.bitvec_span.proofs.domain.partial_element_mut.PartialElementMut.clear.Goals as goal

pub returns-clause-edit : goal.returns-clause-edit
returns-clause-edit g c =
    let zero = ap g.R.BitRegister.number c.ZERO.ensures ∙ g.met.R.BitRegister.zero_is_0 in
    edits_as g.R.BitRegister.BITS g.O.BitAt.at_of (slot_in c.args.self.now) _ (λ i. false) _ _ _
    (λ i h. ap (λ n. digit n (g.O.BitAt.at_of i)) zero ∙ digit-zero (g.O.BitAt.at_of i)) c.store_value.ensures.edit
