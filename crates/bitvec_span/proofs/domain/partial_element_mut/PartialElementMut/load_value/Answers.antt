use Rattle.std.proofs.Common.{map}
use Rattle.bitvec_order.specs.Order.{IsMaskOf}
use Rattle.bitvec_span.specs.Slot.{slot_part}
use Rattle.bitvec_span.specs.PartialElementMut.{memory_of, slot_in}
use Rattle.bitvec_span.proofs.PartLemmas.{value_of-from_mask}
use Rattle.bitvec_span.proofs.domain.partial_element_mut.PartialElementMut.load_value.Goals as goal

pub returns : goal.returns
returns g c =
    let width = g.R.BitRegister.BITS in
    let number = g.R.BitRegister.number in
    let element = c.args.self.now in
    let slot = slot_in element in
    let mask = number c.into_inner.result in
    let masked : IsMaskOf width g.O.BitAt.at_of slot.head slot.tail mask = rw c.into_inner.ensures.value c.mask.ensures in
    value_of-from_mask width g.O.BitAt.at_of (slot_part slot (map number (memory_of element).now)) (number c.word.result) mask (number c.and.result) g.met.O.BitOrder.one_to_one element.tail_in c.word.ensures masked c.and.ensures.below c.and.ensures.digits
