use Rattle.std.proofs.Common.{◌&&◌, get_or, sym, ap, ◌∙◌, arith}
use Rattle.std.proofs.lemmas.List.{get_or-map}
use Rattle.bitvec_mem.specs.Digit.{digit}
use Rattle.bitvec_span.specs.Domain.{element_part}
use Rattle.bitvec_span.proofs.PartLemmas.{value_of-from_mask}
use Rattle.bitvec_span.proofs.domain.partial_element.PartialElement.load_value.Goals as goal

pub returns : goal.returns
returns g c =
    let width = g.R.BitRegister.BITS in
    let number = g.R.BitRegister.number in
    let element = c.args.self.now in
    value_of-from_mask width g.O.BitAt.at_of (element_part number element) (number (get_or element.elem.now 0 c.index-self-0.result)) c.mask.result (number c.and.result) g.met.O.BitOrder.one_to_one element.tail_in
    (sym (get_or-map number element.elem.now 0 c.index-self-0.result 0 (let single = element.single in omega arith))) c.mask.ensures c.and.ensures.below
    (λ p h. c.and.ensures.digits p h ∙ ap (λ m. digit (number (get_or element.elem.now 0 c.index-self-0.result)) p && digit m p) c.into_inner-mask.ensures.value)
