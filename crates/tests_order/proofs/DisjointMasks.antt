-- Masks of ranges of indices that do not meet.
use Rattle.std.proofs.Common.{◌≡◌, ℕ, ◌<◌, ◌≤◌, Option, ◌&&◌, sym, ◌∙◌, subst, inl, inr, arith}
use Rattle.std.proofs.lemmas.Bool.{cases_Bool, and_parts}
use Rattle.bitvec_mem.specs.Digit.{digit}
use Rattle.bitvec_order.specs.Order.{mask_start, mask_end, IsPositionIn, IsOneToOne, MasksPositions}
use Rattle.bitvec_order.specs.Masks.{HasDisjointMasks}

-- a position in two ranges is that of an index of both, since different indices have different
-- positions
shared_index : (width : ℕ) (at : ℕ → ℕ) → IsOneToOne width at → (from upto from2 upto2 p : ℕ)
    → upto ≤ width → upto2 ≤ width → IsPositionIn at from upto p → IsPositionIn at from2 upto2 p
    → (i : ℕ) × (from ≤ i) × (i < upto) × (from2 ≤ i) × (i < upto2)
shared_index width at law from upto from2 upto2 p within within2 one two =
    let under : one.0 < upto = one.2 in
    let under2 : two.0 < upto2 = two.2 in
    let same : two.0 ≡ one.0 =
    law.apart two.0 one.0 (omega arith) (omega arith) (two.3 ∙ sym one.3) in
    (one.0, one.1, under, subst (λ i. from2 ≤ i) same two.1, subst (λ i. i < upto2) same under2)

-- no position is in both masks
pub disjoint_masks : (width : ℕ) (at : ℕ → ℕ) (mask : Option ℕ → Option ℕ → ℕ)
    → IsOneToOne width at → MasksPositions width at mask → HasDisjointMasks width mask
disjoint_masks width at mask law sets = λ from upto from2 upto2 bounds bounds2 apart p h.
    elim (cases_Bool (digit (mask from upto) p && digit (mask from2 upto2) p)) [
      | inl both ↦ (
          let parts = and_parts (digit (mask from upto) p) (digit (mask from2 upto2) p) both in
          let one = ((sets.sets from upto bounds.start bounds.end bounds.ordered).ones p h).0 parts.0 in
          let two = ((sets.sets from2 upto2 bounds2.start bounds2.end bounds2.ordered).ones p h).0 parts.1 in
          let shared =
          shared_index width at law (mask_start from) (mask_end width upto)
          (mask_start from2) (mask_end width upto2) p bounds.end bounds2.end one two in
          absurd (apart shared.0 shared.1 shared.2 shared.3 shared.4))
      | inr none ↦ none
    ]
