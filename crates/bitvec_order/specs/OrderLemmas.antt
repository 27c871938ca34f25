-- Numbers made from positions, and the laws of an order whose selectors and masks are the plain ones.
use Rattle.std.proofs.Common.{◌≡◌, ℕ, zero, suc, ◌-◌, ◌<◌, ◌≤◌, ◌^◌, ◌==◌, Bool, true, false, ◌&&◌, ◌||◌, if◌then◌else◌, nat_le, refl, sym, ap, ◌∙◌, inl, inr, arith}
use Rattle.std.proofs.lemmas.Nat.{or_lt, pow_pos, pow_below}
use Rattle.std.proofs.lemmas.Bool.{cases_eq, cases_Bool, or_cases, eqb-true, eq-eqb, leb-true, le-leb}
use Rattle.bitvec_mem.specs.Digit.{digit}
use Rattle.bitvec_mem.proofs.DigitLemmas.{digit-or, digit-zero, digit-pow}
use Rattle.bitvec_order.specs.Order.{mask_start, mask_end, IsMaskOf, IsOneToOne, SelectsPositions, MasksPositions, number_of, plain_mask_of}

-- index i is below n, passes the test and has position p
abbrev pub IsChosenAt : (ℕ → ℕ) → (ℕ → Bool) → ℕ → ℕ → Type 0
IsChosenAt at test n p = (i : ℕ) × (i < n) × (test i ≡ true) × (at i ≡ p)

digit-choice : (b : Bool) (k p : ℕ) → digit (if b then 2 ^ k else 0) p ≡ (b && (p == k))
digit-choice true k p = digit-pow k p
digit-choice false k p = digit-zero p

-- the digits with one index more
pub digit-number_of_next : (at : ℕ → ℕ) (test : ℕ → Bool) (n p : ℕ) → digit (number_of at test (suc n)) p ≡ (digit (number_of at test n) p || (test n && (p == at n)))
unfolding number_of
digit-number_of_next at test n p = digit-or (number_of at test n) (if test n then 2 ^ at n else 0) p ∙ ap (λ b. digit (number_of at test n) p || b) (digit-choice (test n) (at n) p)

digit-number_of_none : (at : ℕ → ℕ) (test : ℕ → Bool) (p : ℕ) → digit (number_of at test 0) p ≡ false
unfolding number_of
digit-number_of_none at test p = digit-zero p

both_true : (a b : Bool) → (a && b) ≡ true → (a ≡ true) × (b ≡ true)
both_true true b e = (refl, e)
both_true false b e = absurd (cc)

true_left : (a b : Bool) → a ≡ true → (a || b) ≡ true
true_left true b e = refl
true_left false b e = absurd (cc)

true_right : (a b c : Bool) → b ≡ true → c ≡ true → (a || (b && c)) ≡ true
true_right true b c e f = refl
true_right false true c e f = f
true_right false false c e f = absurd (cc)

-- a one stands at the position of a chosen index
pub chosen-from_digit : (at : ℕ → ℕ) (test : ℕ → Bool) (n p : ℕ) → digit (number_of at test n) p ≡ true → IsChosenAt at test n p
chosen-from_digit at test zero p h = absurd (let f = digit-number_of_none at test p in cc)
chosen-from_digit at test (suc n) p h =
    elim (or_cases (digit (number_of at test n) p) (test n && (p == at n)) (sym (digit-number_of_next at test n p) ∙ h)) [
      | inl before ↦ (let r = chosen-from_digit at test n p before in (r.0, (let below = r.1 in omega arith), r.2, r.3))
      | inr here ↦ (let r = both_true (test n) (p == at n) here in (n, omega arith, r.0, sym (eqb-true p (at n) r.1)))
    ]

-- the position of a chosen index has a one
pub digit-from_chosen : (at : ℕ → ℕ) (test : ℕ → Bool) (n p : ℕ) → IsChosenAt at test n p → digit (number_of at test n) p ≡ true
digit-from_chosen at test zero p r = absurd (let below = r.1 in omega arith)
digit-from_chosen at test (suc n) p r =
    digit-number_of_next at test n p
    ∙ elim (cases_eq r.0 n) [
      | inl same ↦ true_right (digit (number_of at test n) p) (test n) (p == at n) (ap test (sym same) ∙ r.2) (eq-eqb p (at n) (sym r.3 ∙ ap at same))
      | inr other ↦ true_left (digit (number_of at test n) p) (test n && (p == at n)) (digit-from_chosen at test n p (r.0, (let below = r.1 in omega arith), r.2, r.3))
    ]

choice_below : (width k : ℕ) (b : Bool) → k < width → (if b then 2 ^ k else 0) < 2 ^ width
choice_below width k true h = pow_below k width h
choice_below width k false h = pow_pos width

-- where the positions are below the width, so is the number below two to its power
pub number_of_below : (width : ℕ) (at : ℕ → ℕ) (test : ℕ → Bool) (n : ℕ) → ((i : ℕ) → i < n → test i ≡ true → at i < width) → number_of at test n < 2 ^ width
unfolding number_of
number_of_below width at test zero h = pow_pos width
number_of_below width at test (suc n) h =
    or_lt width _ _ (number_of_below width at test n (λ i below passes. h i (omega arith) passes))
    (elim (cases_Bool (test n)) [
      | inl passes ↦ choice_below width (at n) (test n) (h n (omega arith) passes)
      | inr fails ↦ (rw fails (pow_pos width))
    ])

-- the plain mask has the set that is asked for, whatever the positions are
pub plain_mask_is_mask : (width : ℕ) (at : ℕ → ℕ) (from upto : ℕ) → ((i : ℕ) → from ≤ i → i < upto → at i < width) → IsMaskOf width at from upto (plain_mask_of at from upto)
plain_mask_is_mask width at from upto below = record {
  below = number_of_below width at (λ i. nat_le from i) upto (λ i h e. below i (leb-true from i e) h);
  ones = λ p h. (
    λ d. let r = chosen-from_digit at (λ i. nat_le from i) upto p d in (r.0, leb-true from r.0 r.2, r.1, r.3),
    λ r. digit-from_chosen at (λ i. nat_le from i) upto p (r.0, r.2, le-leb from r.0 r.1, r.3),
  );
}

-- an order whose selectors are the plain ones selects its positions
pub plain_selects : (width : ℕ) (at : ℕ → ℕ) → SelectsPositions width at (λ i. 2 ^ at i)
plain_selects width at = record { powers = λ i h. refl }

-- one whose masks are the plain ones masks its positions
pub plain_masks : (width : ℕ) (at : ℕ → ℕ) → ((i : ℕ) → i < width → at i < width) → MasksPositions width at (λ from upto. plain_mask_of at (mask_start from) (mask_end width upto))
plain_masks width at below = record {
  sets = λ from upto a b c. plain_mask_is_mask width at (mask_start from) (mask_end width upto) (λ i h k. below i (omega arith));
}

-- the numbers of the indices as their positions are different, and so are those counted down from the highest
pub low_one_to_one : (width : ℕ) → IsOneToOne width (λ i. i)
low_one_to_one width = record { below = λ i h. h; apart = λ i j h k e. e }

pub high_one_to_one : (width top : ℕ) → 8 ≤ width → top ≡ width - 1 → IsOneToOne width (λ i. top - i)
high_one_to_one width top some e = record { below = λ i h. omega arith; apart = λ i j h k d. omega arith }
