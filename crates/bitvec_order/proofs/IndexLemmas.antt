-- What a lawful order's numbers have at the position of each index. The layers above cite these, and open no mask.
use Rattle.std.proofs.Common.{◌≡◌, ◌≢◌, ◌⊎◌, ℕ, zero, suc, ◌<◌, ◌≤◌, ◌^◌, Bool, true, false, cond, eqb, ◌&&◌, nat_le, nat_lt, refl, sym, ap, ◌∙◌, subst, inl, inr, ⊎_elim, arith}
use Rattle.std.proofs.lemmas.Bool.{cases_eq, cases_lt, cases_Bool, false_from_ne_true, le-leb, lt-leb, le-ltb}
use Rattle.std.proofs.lemmas.Bool.Decides.{nat_tests}
use Rattle.bitvec_mem.specs.Digit.{digit}
use Rattle.bitvec_mem.specs.SameDigits.{same_from_digits}
use Rattle.bitvec_order.specs.Order.{IsMaskOf, IsOneToOne, number_of}
use Rattle.bitvec_order.specs.OrderLemmas.{chosen-from_digit, digit-from_chosen, number_of_below}

-- f with another value at one place
with_at : (ℕ → ℕ) → ℕ → ℕ → ℕ → ℕ
with_at f n v i = cond (eqb i n) v (f i)

with_at-same : (f : ℕ → ℕ) (n v i : ℕ) → i ≡ n → with_at f n v i ≡ v
unfolding with_at
with_at-same f n v i e = grind (arith, nat_tests)

with_at-other : (f : ℕ → ℕ) (n v i : ℕ) → i ≢ n → with_at f n v i ≡ f i
unfolding with_at
with_at-other f n v i e = grind (arith, nat_tests)

-- f with one value in place of another
turned : (ℕ → ℕ) → ℕ → ℕ → ℕ → ℕ
turned f m v i = cond (eqb (f i) m) v (f i)

turned-same : (f : ℕ → ℕ) (m v i : ℕ) → f i ≡ m → turned f m v i ≡ v
unfolding turned
turned-same f m v i e = grind (arith, nat_tests)

turned-other : (f : ℕ → ℕ) (m v i : ℕ) → f i ≢ m → turned f m v i ≡ f i
unfolding turned
turned-other f m v i e = grind (arith, nat_tests)

-- numbers below n + 1 cannot all have different values below n
pub no_injection : (n : ℕ) (f : ℕ → ℕ) → ((i : ℕ) → i < suc n → f i < n) → ((i j : ℕ) → i < suc n → j < suc n → f i ≡ f j → i ≡ j) → ⊥
no_injection zero f below apart = absurd (omega (arith, below 0 (omega arith)))
no_injection (suc m) f below apart =
    let v : ℕ = f (suc m) in
    no_injection m (turned f m (f (suc m)))
    (λ i h. ⊎_elim
    (λ e. ⊎_elim
    (λ x. absurd (omega (arith, apart i (suc m) (omega arith) (omega arith) (e ∙ sym x))))
    (λ x. subst (λ y. y < m) (sym (turned-same f m (f (suc m)) i e)) (omega (arith, below (suc m) (omega arith))))
    (cases_eq (f (suc m)) m))
    (λ e. subst (λ y. y < m) (sym (turned-other f m (f (suc m)) i e)) (omega (arith, below i (omega arith))))
    (cases_eq (f i) m))
    (λ i j h k q. ⊎_elim
    (λ e. ⊎_elim
    (λ d. apart i j (omega arith) (omega arith) (e ∙ sym d))
    (λ d. absurd (omega (arith, apart (suc m) j (omega arith) (omega arith) (sym (turned-same f m (f (suc m)) i e) ∙ q ∙ turned-other f m (f (suc m)) j d))))
    (cases_eq (f j) m))
    (λ e. ⊎_elim
    (λ d. absurd (omega (arith, apart i (suc m) (omega arith) (omega arith) (sym (turned-other f m (f (suc m)) i e) ∙ q ∙ turned-same f m (f (suc m)) j d))))
    (λ d. apart i j (omega arith) (omega arith) (sym (turned-other f m (f (suc m)) i e) ∙ q ∙ turned-other f m (f (suc m)) j d))
    (cases_eq (f j) m))
    (cases_eq (f i) m))

-- p is the value of a number below n, or of none
pub value_below : (n : ℕ) (f : ℕ → ℕ) (p : ℕ) → ((i : ℕ) × (i < n) × (f i ≡ p)) ⊎ ((i : ℕ) → i < n → f i ≢ p)
value_below zero f p = inr (λ i h. absurd (omega arith))
value_below (suc n) f p =
    ⊎_elim
    (λ e. inl (n, omega arith, e))
    (λ e. ⊎_elim
    (λ r. inl (r.0, omega (arith, r.1), r.2))
    (λ none. inr (λ i h. ⊎_elim (λ x. subst (λ y. f y ≢ p) (sym x) e) (λ x. none i (omega arith)) (cases_eq i n)))
    (value_below n f p))
    (cases_eq (f n) p)

-- each position is that of an index
pub index_at : (width : ℕ) (at : ℕ → ℕ) → IsOneToOne width at → (p : ℕ) → p < width → (i : ℕ) × (i < width) × (at i ≡ p)
index_at width at law p h =
    ⊎_elim
    (λ r. r)
    (λ none. absurd (no_injection width (with_at at width p)
    (λ i l. ⊎_elim
    (λ e. subst (λ y. y < width) (sym (with_at-same at width p i e)) h)
    (λ e. subst (λ y. y < width) (sym (with_at-other at width p i e)) (law.below i (omega arith)))
    (cases_eq i width))
    (λ i j l k q. ⊎_elim
    (λ e. ⊎_elim
    (λ d. e ∙ sym d)
    (λ d. absurd (none j (omega arith) (sym (with_at-other at width p j d) ∙ sym q ∙ with_at-same at width p i e)))
    (cases_eq j width))
    (λ e. ⊎_elim
    (λ d. absurd (none i (omega arith) (sym (with_at-other at width p i e) ∙ q ∙ with_at-same at width p j d)))
    (λ d. law.apart i j (omega arith) (omega arith) (sym (with_at-other at width p i e) ∙ q ∙ with_at-other at width p j d))
    (cases_eq j width))
    (cases_eq i width))))
    (value_below width at p)

-- numbers below two to the width that agree at the position of each index are equal
pub same_from_indices : (width : ℕ) (at : ℕ → ℕ) (a b : ℕ) → IsOneToOne width at → a < 2 ^ width → b < 2 ^ width → ((i : ℕ) → i < width → digit a (at i) ≡ digit b (at i)) → a ≡ b
same_from_indices width at a b law ha hb same =
    same_from_digits width a b ha hb (λ p h. let r = index_at width at law p h in subst (λ q. digit a q ≡ digit b q) r.2 (same r.0 r.1))

both : (from upto i : ℕ) → from ≤ i → i < upto → (nat_le from i && nat_lt i upto) ≡ true
both from upto i h k = grind (arith, nat_tests)

not_both : (from upto i : ℕ) → (from ≤ i → i < upto → ⊥) → (nat_le from i && nat_lt i upto) ≡ false
not_both from upto i h =
    elim (cases_lt i from) [
      | inl below ↦ (rw (lt-leb from i below) refl)
      | inr from_on ↦ elim (cases_lt i upto) [
        | inl inside ↦ absurd (h from_on inside)
        | inr past ↦ (rw (le-leb from i from_on, le-ltb i upto past) refl)
      ]
    ]

-- a mask has the position of an index exactly where it takes the index
pub digit-mask_at : (width : ℕ) (at : ℕ → ℕ) (from upto n i : ℕ) → IsOneToOne width at → upto ≤ width → IsMaskOf width at from upto n → i < width → digit n (at i) ≡ (nat_le from i && nat_lt i upto)
digit-mask_at width at from upto n i law within mask h =
    let ones = mask.ones (at i) (law.below i h) in
    elim (cases_Bool (digit n (at i))) [
      | inl one ↦ (
          let r = ones.0 one in
          let below : r.0 < width = (let u = r.2 in omega arith) in
          let same : r.0 ≡ i = law.apart r.0 i below h r.3 in
          one ∙ sym (both from upto i (subst (λ k. from ≤ k) same r.1) (subst (λ k. k < upto) same r.2)))
      | inr none ↦ (none ∙ sym (not_both from upto i (λ a b. let one = ones.1 (i, a, b, refl) in cc)))
    ]

-- the digit of a number made from chosen indices, at each of them and at each other
pub digit-number_of_at : (width : ℕ) (at : ℕ → ℕ) (test : ℕ → Bool) (i : ℕ) → IsOneToOne width at → i < width → digit (number_of at test width) (at i) ≡ test i
digit-number_of_at width at test i law h =
    elim (cases_Bool (digit (number_of at test width) (at i))) [
      | inl one ↦ (
          let r = chosen-from_digit at test width (at i) one in
          one ∙ sym (ap test (sym (law.apart r.0 i r.1 h r.3)) ∙ r.2))
      | inr none ↦ (none ∙ sym (false_from_ne_true (test i) (λ passes. let one = digit-from_chosen at test width (at i) (i, h, passes, refl) in cc)))
    ]

-- such a number is the only one below two to the width with these digits
pub number_of-from_digits : (width : ℕ) (at : ℕ → ℕ) (test : ℕ → Bool) (w : ℕ) → IsOneToOne width at → w < 2 ^ width → ((i : ℕ) → i < width → digit w (at i) ≡ test i) → w ≡ number_of at test width
number_of-from_digits width at test w law small digits =
    same_from_indices width at w (number_of at test width) law small (number_of_below width at test width (λ i h passes. law.below i h))
    (λ i h. digits i h ∙ sym (digit-number_of_at width at test i law h))
