use Rattle.std.proofs.Common.{ℕ, Bool, map, subst, arith}
use Rattle.std.specs.Prelude.{slice_index}
use Rattle.bitvec_mem.specs.Digit.{digit}
use Rattle.bitvec_span.specs.PartialElementMut.{memory_of, slot_in}
use Rattle.bitvec_span.proofs.EditLemmas.{IsEditedUnderMask, edits_part}
use Rattle.bitvec_span.proofs.domain.partial_element_mut.PartialElementMut.store_value.Goals as goal

pub returns-clause-edit : goal.returns-clause-edit
returns-clause-edit g c =
    let width = g.R.BitRegister.BITS in
    let number = g.R.BitRegister.number in
    let at = g.O.BitAt.at_of in
    let law = g.met.O.BitOrder.one_to_one in
    let element = c.args.self.now in
    let slot = slot_in element in
    let after : ℕ → Bool = λ i. digit (number c.args.value) (at i) in
    let old = (memory_of element).now in
    let word = number c.stored.result in
    let answer = number c.and.result in
    edits_part width at slot after number old (memory_of c.put.new.self).now c.stored.result answer
    law
    (record {
      some = omega (arith, g.met.R.BitRegister.width_at_least_8);
      tail_in = element.tail_in;
      in_memory = element.in_memory;
      put = c.put.ensures.memory;
    })
    (subst (λ was. IsEditedUnderMask width at slot after was word answer)
    {y = slice_index (map number old) slot.word} c.word-old.ensures
    (record {
      mask = number c.into_inner-mask.result;
      masked = rw c.into_inner-mask.ensures.value c.mask.ensures;
      small = c.stored.ensures.below;
      small_answer = c.and.ensures.below;
      digits = λ i h. c.stored.ensures.digits (at i) (law.below i h);
      kept = c.and.ensures.digits;
    }))
