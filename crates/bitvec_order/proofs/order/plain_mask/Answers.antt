use Rattle.std.proofs.Common.{◌≡◌, ◌<◌, ◌^◌, ◌||◌, sym, ap, ◌∙◌, subst, inl, inr, arith, rules}
use Rattle.std.proofs.lemmas.Bool.{cases_eq}
use Rattle.std.proofs.lemmas.Nat.{pow_below}
use Rattle.bitvec_mem.specs.Digit.{digit}
use Rattle.bitvec_order.specs.Order.{mask_start, mask_end, IsMaskOf, plain_mask_of}
use Rattle.bitvec_order.specs.OrderLemmas.{plain_mask_is_mask}
use Rattle.bitvec_order.proofs.MaskLemmas.{or_from_digits, plain_mask_of-none, plain_mask_of-next}
use Rattle.bitvec_order.proofs.order.plain_mask.Goals as goal

pub loop-i-init : goal.loop-i-init
loop-i-init g c = record {
  value = c.ZERO-mask.ensures ∙ sym (plain_mask_of-none g.O.BitAt.at_of c.into_inner-first.result);
  below = λ k h l. absurd (omega arith);
}

pub loop-i-preserved : goal.loop-i-preserved
loop-i-preserved g c =
    let width = g.R.BitRegister.BITS in
    let at = g.O.BitAt.at_of in
    let first = c.into_inner-first.result in
    let l = c.loop-i in
    let position : c.at.result ≡ g.O.BitAt.at_of c.loop-i.i = c.at.ensures ∙ ap at c.new_unchecked.ensures in
    let selector : c.select.result ≡ 2 ^ g.O.BitAt.at_of c.loop-i.i = c.select.ensures.value ∙ ap (λ p. 2 ^ p) position in
    let here = subst (λ p. p < width) position c.select.ensures.below in
    let small = (plain_mask_is_mask width at first l.i l.invariant.below).below in
    record {
      value =
          or_from_digits width (plain_mask_of at first l.i) (2 ^ at l.i) c.combine-mask.result small (pow_below (at l.i) width here) c.combine-mask.ensures.below
          (λ p h. c.combine-mask.ensures.digits p h ∙ ap (λ m. digit m p || digit c.select.result p) l.invariant.value ∙ ap (λ s. digit (plain_mask_of at first l.i) p || digit s p) selector)
          ∙ sym (plain_mask_of-next at first l.i (omega arith));
      below = λ k h below. elim (cases_eq k l.i) [
        | inl same ↦ subst (λ i. at i < width) (sym same) here
        | inr other ↦ l.invariant.below k h (omega arith)
      ];
    }

pub returns-clause-value : goal.returns-clause-value
returns-clause-value g c =
    let at = g.O.BitAt.at_of in
    let first : c.into_inner-first.result ≡ mask_start c.args.from = search rules in
    let last : c.into_inner-end.result ≡ mask_end g.R.BitRegister.BITS c.args.upto = search rules in
    let ends : c.loop-i.i ≡ mask_end g.R.BitRegister.BITS c.args.upto = omega (arith, first, last, c.requires) in
    c.loop-i.invariant.value ∙ ap (λ i. plain_mask_of at i c.loop-i.i) first ∙ ap (plain_mask_of at (mask_start c.args.from)) ends

pub returns-clause-set : goal.returns-clause-set
returns-clause-set g c =
    let width = g.R.BitRegister.BITS in
    let at = g.O.BitAt.at_of in
    let first : c.into_inner-first.result ≡ mask_start c.args.from = search rules in
    let last : c.into_inner-end.result ≡ mask_end g.R.BitRegister.BITS c.args.upto = search rules in
    let ends : c.loop-i.i ≡ mask_end g.R.BitRegister.BITS c.args.upto = omega (arith, first, last, c.requires) in
    let is = plain_mask_is_mask width at c.into_inner-first.result c.loop-i.i c.loop-i.invariant.below in
    subst (λ n. IsMaskOf width at (mask_start c.args.from) (mask_end width c.args.upto) n) (sym (returns-clause-value g c))
    (subst (λ i. IsMaskOf width at i (mask_end width c.args.upto) (plain_mask_of at i (mask_end width c.args.upto))) first
    (subst (λ i. IsMaskOf width at c.into_inner-first.result i (plain_mask_of at c.into_inner-first.result i)) ends is))
