use Rattle.std.proofs.Common.{◌≡◌, ◌^◌, ◌&&◌, ap, ◌∙◌}
use Rattle.bitvec.specs.Digit.{digit}
use Rattle.bitvec.proofs.BitLemmas.{selected, unselected}
use Rattle.bitvec_slice.proofs.slice.bit_slice_mut.with_bit.Goals as goal

pub returns-then-bit : goal.returns-then-bit
returns-then-bit g c = λ j h.
    let at = g.O.BitAt.at_of in
    let law = g.met.O.BitOrder.one_to_one in
    let number = g.R.BitRegister.number in
    let is : number c.into_inner-selector.result ≡ 2 ^ at c.args.index = c.into_inner-selector.ensures.value ∙ c.select.ensures.value in
    rw c.if-bit.true (c.or.ensures.digits (at j) (law.below j h) ∙ selected g.R.BitRegister.BITS at (number c.args.word) c.args.index j (number c.into_inner-selector.result) law c.select.ensures.below h is)

pub returns-else-bit : goal.returns-else-bit
returns-else-bit g c = λ j h.
    let at = g.O.BitAt.at_of in
    let law = g.met.O.BitOrder.one_to_one in
    let number = g.R.BitRegister.number in
    let is : number c.into_inner-selector.result ≡ 2 ^ at c.args.index = c.into_inner-selector.ensures.value ∙ c.select.ensures.value in
    rw c.if-bit.false (
    c.and.ensures.digits (at j) (law.below j h)
    ∙ ap (λ b. digit (number c.args.word) (at j) && b) (c.not.ensures.digits (at j) (law.below j h))
    ∙ unselected g.R.BitRegister.BITS at (number c.args.word) c.args.index j (number c.into_inner-selector.result) law c.select.ensures.below h is)
