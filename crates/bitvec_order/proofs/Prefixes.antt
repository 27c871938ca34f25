-- Masks of the indices below a bound, and the mask between two bounds as what one of them has and the other lacks.
use Rattle.std.proofs.Common.{◌≡◌, ℕ, ◌+◌, ◌-◌, ◌<◌, ◌≤◌, ◌^◌, false, true, not, ◌&&◌, nat_le, nat_lt, sym, ap, ◌∙◌, subst, inl, inr, arith}
use Rattle.std.proofs.lemmas.Bool.{cases_lt, le-leb, lt-ltb, le-ltb}
use Rattle.std.proofs.lemmas.Bool.Decides.{nat_tests}
use Rattle.bitvec_mem.specs.Digit.{digit}
use Rattle.bitvec_mem.proofs.DigitLemmas.{digit_all}
use Rattle.bitvec_order.specs.Order.{IsMaskOf, IsOneToOne, plain_mask_of}
use Rattle.bitvec_order.specs.OrderLemmas.{plain_mask_is_mask, low_one_to_one, high_one_to_one}
use Rattle.bitvec_order.proofs.IndexLemmas.{digit-mask_at, same_from_indices}

-- a number that has the position of an index exactly where a range takes the index is the range's mask
pub plain_mask_from_digits : (width : ℕ) (at : ℕ → ℕ) (from upto n : ℕ) → IsOneToOne width at → upto ≤ width → n < 2 ^ width → ((i : ℕ) → i < width → digit n (at i) ≡ (nat_le from i && nat_lt i upto)) → n ≡ plain_mask_of at from upto
plain_mask_from_digits width at from upto n law fits small digits =
    let plain : IsMaskOf width at from upto (plain_mask_of at from upto) = plain_mask_is_mask width at from upto (λ i h k. law.below i (omega arith)) in
    same_from_indices width at n (plain_mask_of at from upto) law small plain.below
    (λ i h. digits i h ∙ sym (digit-mask_at width at from upto (plain_mask_of at from upto) i law fits plain h))

-- the number of the plain mask has its set
pub mask_from_value : (width : ℕ) (at : ℕ → ℕ) (from upto n : ℕ) → IsOneToOne width at → upto ≤ width → n ≡ plain_mask_of at from upto → IsMaskOf width at from upto n
mask_from_value width at from upto n law fits is =
    subst (λ m. IsMaskOf width at from upto m) (sym is) (plain_mask_is_mask width at from upto (λ i h k. law.below i (omega arith)))

from_least : (i upto : ℕ) → nat_lt i upto ≡ (nat_le 0 i && nat_lt i upto)
from_least i upto = ap (λ b. b && nat_lt i upto) (sym (le-leb 0 i (omega arith)))

-- all ones are the mask of all indices
pub whole_prefix : (width : ℕ) (at : ℕ → ℕ) (upto n : ℕ) → IsOneToOne width at → n < 2 ^ width → n ≡ 2 ^ width - 1 → upto ≡ width → n ≡ plain_mask_of at 0 upto
whole_prefix width at upto n law small is whole =
    plain_mask_from_digits width at 0 upto n law (omega arith) small
    (λ i h. ap (λ m. digit m (at i)) is ∙ digit_all width (at i) (law.below i h) ∙ sym (lt-ltb i upto (omega arith)) ∙ from_least i upto)

-- t is `all` ones of a width, moved up by `count` to s and turned over
pub record IsTurnedOver (width count all s t : ℕ) : Type 0 where
  pub ones : all ≡ 2 ^ width - 1
  pub low : (q : ℕ) → q < count → digit s q ≡ false
  pub moved : (q : ℕ) → count + q < width → digit s (count + q) ≡ digit all q
  pub turned : (q : ℕ) → q < width → digit t q ≡ not (digit s q)
  pub below : t < 2 ^ width

-- all ones, moved up by `count` and turned over: the lowest `count` are left
digit-lowest : {width count all s t : ℕ} → IsTurnedOver width count all s t → (p : ℕ) → p < width → digit t p ≡ nat_lt p count
digit-lowest {width = width} {count = count} {s = s} is p h =
    elim (cases_lt p count) [
      | inl under ↦ is.turned p h ∙ ap not (is.low p under) ∙ sym (lt-ltb p count under)
      | inr past ↦ (
          let place : p ≡ count + (p - count) = omega arith in
          let one : digit s p ≡ true =
          ap (digit s) place ∙ is.moved (p - count) (omega arith) ∙ ap (λ n. digit n (p - count)) is.ones ∙ digit_all width (p - count) (omega arith) in
          is.turned p h ∙ ap not one ∙ sym (le-ltb p count past))
    ]

-- so they are the mask of the first `count` indices where the positions rise
pub low_prefix : {width count all s t : ℕ} → IsTurnedOver width count all s t → (upto : ℕ) → count ≡ upto → upto ≤ width
    → t ≡ plain_mask_of (λ i. i) 0 upto
low_prefix {width = width} {t = t} is upto same fits =
    plain_mask_from_digits width (λ i. i) 0 upto t (low_one_to_one width) fits is.below
    (λ i h. digit-lowest is i h ∙ ap (nat_lt i) same ∙ from_least i upto)

counted_down : (width top count others i : ℕ) → 8 ≤ width → top ≡ width - 1 → others ≡ width - count → count ≤ width → i < width → not (nat_lt (top - i) others) ≡ nat_lt i count
counted_down width top count others i some highest rest fits h =
    elim (cases_lt i count) [
      | inl under ↦ ap not (le-ltb (top - i) others (omega arith)) ∙ sym (lt-ltb i count under)
      | inr past ↦ ap not (lt-ltb (top - i) others (omega arith)) ∙ sym (le-ltb i count past)
    ]

-- t is s turned over, where s is the mask of the first `others` indices of a width under positions that rise
pub record IsAllBut (width others s t : ℕ) : Type 0 where
  pub lowest : IsMaskOf width (λ i. i) 0 others s
  pub turned : (q : ℕ) → q < width → digit t q ≡ not (digit s q)
  pub below : t < 2 ^ width

-- the positions that are not the lowest `others` are the mask of the first indices where the positions fall
pub high_prefix : {width others s t : ℕ} → IsAllBut width others s t → (top upto : ℕ) → 8 ≤ width → top ≡ width - 1 → upto ≤ width
    → others ≡ width - upto → t ≡ plain_mask_of (λ i. top - i) 0 upto
high_prefix {width = width} {others = others} {s = s} {t = t} is top upto some highest fits rest =
    plain_mask_from_digits width (λ i. top - i) 0 upto t (high_one_to_one width top some highest) fits is.below
    (λ i h.
    is.turned (top - i) (omega arith)
    ∙ ap not (digit-mask_at width (λ j. j) 0 others s (top - i) (low_one_to_one width) (omega arith) is.lowest (omega arith))
    ∙ ap not (sym (from_least (top - i) others))
    ∙ counted_down width top upto others i some highest rest fits h
    ∙ from_least i upto)

between : (from upto i : ℕ) → from ≤ upto → ((nat_le 0 i && nat_lt i upto) && not (nat_le 0 i && nat_lt i from)) ≡ (nat_le from i && nat_lt i upto)
between from upto i ordered = grind (arith, nat_tests)

-- a is the mask of the indices below `end`, b that of those below `start`, and r has what a has and b lacks
pub record IsDifference (width : ℕ) (at : ℕ → ℕ) (start end a b r : ℕ) : Type 0 where
  pub upper : IsMaskOf width at 0 end a
  pub lower : IsMaskOf width at 0 start b
  pub below : r < 2 ^ width
  pub digits : (p : ℕ) → p < width → digit r p ≡ (digit a p && not (digit b p))

-- what the mask of the indices below `upto` has and that of the indices below `from` lacks is the mask between these
pub mask_from_prefixes : {width : ℕ} {at : ℕ → ℕ} {start end a b r : ℕ} → IsDifference width at start end a b r → (from upto : ℕ)
    → IsOneToOne width at → start ≡ from → end ≡ upto → from ≤ upto → upto ≤ width → r ≡ plain_mask_of at from upto
mask_from_prefixes {width = width} {at = at} {start = start} {end = end} {a = a} {b = b} {r = r} is from upto law first last ordered fits =
    plain_mask_from_digits width at from upto r law fits is.below
    (λ i h.
    is.digits (at i) (law.below i h)
    ∙ ap (λ x. x && not (digit b (at i))) (digit-mask_at width at 0 end a i law (omega arith) is.upper h)
    ∙ ap (λ x. (nat_le 0 i && nat_lt i end) && not x) (digit-mask_at width at 0 start b i law (omega arith) is.lower h)
    ∙ ap (λ x. (nat_le 0 i && nat_lt i x) && not (nat_le 0 i && nat_lt i start)) last
    ∙ ap (λ x. (nat_le 0 i && nat_lt i upto) && not (nat_le 0 i && nat_lt i x)) first
    ∙ between from upto i ordered)
