-- The plain mask, one index at a time.
use Rattle.std.proofs.Common.{◌≡◌, ℕ, zero, suc, ◌+◌, ◌<◌, ◌≤◌, ◌^◌, Bool, false, ◌||◌, List, [], ◌∷◌, ◌++◌, if◌then◌else◌, nat_le, bit_or, refl, sym, ap, ◌∙◌, arith}
use Rattle.std.proofs.lemmas.Nat.{or_lt}
use Rattle.std.proofs.lemmas.Bool.{le-leb, lt-leb}
use Rattle.std.proofs.lemmas.List.Folds.{list_any-append}
use Rattle.std.proofs.Math.Bool.{or-false}
use Rattle.bitvec_mem.specs.Digit.{digit}
use Rattle.bitvec_mem.specs.SameDigits.{same_from_digits}
use Rattle.bitvec_mem.proofs.DigitLemmas.{digit-or}
use Rattle.bitvec_order.specs.Masks.{HasDigits, is_in_some}
use Rattle.bitvec_order.specs.Order.{number_of, plain_mask_of}

-- a number is the union of two by its digits
pub or_from_digits : (width m s r : ℕ) → m < 2 ^ width → s < 2 ^ width → r < 2 ^ width → ((p : ℕ) → p < width → digit r p ≡ (digit m p || digit s p)) → r ≡ bit_or m s
or_from_digits width m s r hm hs hr digits = same_from_digits width r (bit_or m s) hr (or_lt width m s hm hs) (λ p h. digits p h ∙ sym (digit-or m s p))

-- where no index passes the test, the number is zero
pub number_of-none : (at : ℕ → ℕ) (test : ℕ → Bool) (n : ℕ) → ((i : ℕ) → i < n → test i ≡ false) → number_of at test n ≡ 0
unfolding number_of
number_of-none at test zero h = refl
number_of-none at test (suc n) h = rw (h n (omega arith), number_of-none at test n (λ i below. h i (omega arith))) refl

pub plain_mask_of-none : (at : ℕ → ℕ) (from : ℕ) → plain_mask_of at from from ≡ 0
plain_mask_of-none at from = number_of-none at (λ i. nat_le from i) from (λ i h. lt-leb from i h)

pub plain_mask_of-next : (at : ℕ → ℕ) (from i : ℕ) → from ≤ i → plain_mask_of at from (i + 1) ≡ bit_or (plain_mask_of at from i) (2 ^ at i)
unfolding number_of
plain_mask_of-next at from i h =
    let next : i + 1 ≡ suc i = omega arith in
    ap (plain_mask_of at from) next ∙ ap (λ b. bit_or (plain_mask_of at from i) (if b then 2 ^ at i else 0)) (le-leb from i h)

-- the union of a list of numbers with one more
pub union_push : (width m n x : ℕ) (xs : List ℕ) → HasDigits width m (is_in_some xs) → n < 2 ^ width → ((p : ℕ) → p < width → digit n p ≡ (digit m p || digit x p)) → HasDigits width n (is_in_some (xs ++ (x ∷ [])))
union_push width m n x xs before small digits = record {
  below = small;
  digits = λ p h.
      digits p h ∙ ap (λ b. b || digit x p) (before.digits p h)
      ∙ sym (list_any-append (λ k. digit k p) xs (x ∷ []) ∙ ap (λ b. is_in_some xs p || b) (or-false (digit x p)));
}
