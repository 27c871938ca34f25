use Rattle.std.proofs.Common.{◌≡◌, ◌^◌, ◌<◌, ◌&&◌, if◌then◌else◌, sym, ap, subst, ◌∙◌}
use Rattle.bitvec.specs.Digit.{digit}
use Rattle.bitvec_vec.proofs.BoolLemmas.{moved_choice}
use Rattle.bitvec_vec.proofs.LastLemmas.{replaced}
use Rattle.bitvec_vec.proofs.vec.front.with_bit.Goals as goal

pub returns : goal.returns
returns g c = λ j h.
    let width = g.R.BitRegister.BITS in
    let at = g.O.BitAt.at_of in
    let number = g.R.BitRegister.number in
    let law = g.met.O.BitOrder.one_to_one in
    let bit = c.args.bit in
    let p = c.into_inner.result in
    let place : p ≡ at c.args.index = c.into_inner.ensures.value ∙ c.position.ensures in
    let within : p < width = subst (λ n. n < width) (sym c.into_inner.ensures.value) c.into_inner.ensures.below in
    let moved : number c.shl-moved.result ≡ (if bit then 2 ^ p else 0) =
    moved_choice width p bit (number c.one_where-one.result) (number c.shl-moved.result) within c.one_where-one.ensures c.shl-moved.ensures.below c.shl-moved.ensures.low c.shl-moved.ensures.moved in
    replaced width at (number c.args.word) (number c.into_inner-selector.result) (number c.and.result) (number c.shl-moved.result) (number c.or.result) c.args.index j bit law c.select.ensures.below h
    (c.into_inner-selector.ensures.value ∙ c.select.ensures.value)
    (moved ∙ ap (λ n. if bit then 2 ^ n else 0) place)
    (c.and.ensures.digits (at j) (law.below j h) ∙ ap (λ b. digit (number c.args.word) (at j) && b) (c.not.ensures.digits (at j) (law.below j h)))
    (c.or.ensures.digits (at j) (law.below j h))
