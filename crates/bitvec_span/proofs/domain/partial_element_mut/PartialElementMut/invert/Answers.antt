use Rattle.std.proofs.Common.{not, map, ap, ◌∙◌}
use Rattle.std.specs.Prelude.{slice_index}
use Rattle.bitvec_mem.specs.Digit.{digit}
use Rattle.bitvec_span.specs.PartialElementMut.{memory_of, slot_in}
use Rattle.bitvec_span.proofs.EditLemmas.{edits_as}
use Rattle.bitvec_span.proofs.domain.partial_element_mut.PartialElementMut.invert.Goals as goal

pub returns-clause-edit : goal.returns-clause-edit
returns-clause-edit g c =
    let width = g.R.BitRegister.BITS in
    let at = g.O.BitAt.at_of in
    let element = c.args.self.now in
    edits_as width at (slot_in element) _ (λ i. not (digit (slice_index (map g.R.BitRegister.number (memory_of element).now) (slot_in element).word) (at i))) _ _ _
    (λ i h. c.not-turned.ensures.digits (at i) (g.met.O.BitOrder.one_to_one.below i h) ∙ ap (λ w. not (digit w (at i))) c.word.ensures) c.store_value.ensures.edit
