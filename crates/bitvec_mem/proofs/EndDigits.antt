-- The lowest and the highest digit of a number that is one, as the counts of its zeros at both ends give them, and the
-- number without its lowest.
use Rattle.std.proofs.Common.{◌≡◌, ℕ, suc, ◌+◌, ◌-◌, ◌*◌, ◌/◌, ◌%◌, ◌^◌, ◌<◌, ◌≤◌, ◌==◌, ◌&&◌, not, true, false, ◌⊎◌, inl, inr, refl, sym, ap, ◌∙◌, subst, arith}
use Rattle.std.proofs.Math.Numerals.{one-add}
use Rattle.std.proofs.Math.Bool.{and_self, and-true}
use Rattle.std.proofs.Math.Nat.{mod-lt}
use Rattle.std.proofs.Math.Pow.{shr_lt, pow-lt, pow_mono}
use Rattle.std.proofs.lemmas.Bool.{cases_lt, cases_order, cases_eq, and_left, eq-eqb}
use Rattle.std.proofs.lemmas.Nat.{le-div, pow_pos, leading_top, div-add-mod'}
use Rattle.std.proofs.lemmas.Nat.Bits.{bit_at-trailing_zeros, bit_at_cat_high, bit_at_cat_low}
use Rattle.std.specs.Int.Bits.{bit_and}
use Rattle.std.specs.Prelude.{Option, Some, None, IsNone, IfSome}
use Rattle.std.specs.Option.{unwrap_or}
use Rattle.std.specs.Int.{w128, trailing_zeros}
use lib.Count.{count_leading_zeros}
use Rattle.bitvec_mem.specs.Digit.{digit}
use Rattle.bitvec_mem.specs.Ones.{HasNoOne, IsLowestOne, IsHighestOne, IsWithoutLowestOne}
use Rattle.bitvec_mem.specs.SameDigits.{same_from_digits}
use Rattle.bitvec_mem.proofs.DigitLemmas.{digit_above, digit-zero, digit-and, digit-mod, digit-pow_same, digit-pow_other, not_same, true_not_false}

-- zero has no digit that is one
pub no_one : (bits w : ℕ) → w ≡ 0 → HasNoOne bits w
no_one bits w is = λ p lt. ap (λ n. digit n p) is ∙ digit-zero p

-- a digit that is one lies below the width
one_below : (bits w p : ℕ) → w < 2 ^ bits → digit w p ≡ true → p < bits
one_below bits w p small one = at (cases_lt p bits)
  where
    at : (p < bits) ⊎ (bits ≤ p) → p < bits
    at (inl lt) = lt
    at (inr le) = absurd (true_not_false (sym one ∙ digit_above w bits p small le))

-- the lowest
pub lowest : (bits w : ℕ) → bits ≤ 128 → w < 2 ^ bits → (w ≡ 0 → ⊥) → IsLowestOne bits w (trailing_zeros w128 w)
unfolding digit
lowest bits w narrow small some =
    let wide : w < 2 ^ 128 = omega (arith, small, pow_mono narrow) in
    let pos : 0 < w = omega (arith, some) in
    let found = bit_at-trailing_zeros w128 w pos wide in
    let one = ap (λ n. n == 1) found.1 in
    (one_below bits w (trailing_zeros w128 w) small one, one, λ q lt. ap (λ n. n == 1) (found.2 q lt))

-- the digit at the top of a number
top_digit : (w j : ℕ) → 2 ^ j ≤ w → w < 2 ^ suc j → digit w j ≡ true
unfolding digit
top_digit w j low high =
    let up : 1 ≤ w / 2 ^ j = le-div 1 w (2 ^ j) (pow_pos j) (omega (arith, low)) in
    let down : w / 2 ^ j < 2 = shr_lt 1 j (subst (λ x. w < 2 ^ x) (sym (one-add j)) high) in
    let is : w / 2 ^ j ≡ 1 = omega (arith, up, down) in
    ap (λ n. n % 2 == 1) is

-- the highest, of a number that lies below two to `by` as well
pub highest : (bits by w : ℕ) → w < 2 ^ bits → w < 2 ^ by → (w ≡ 0 → ⊥) → IsHighestOne bits w (by - 1 - count_leading_zeros by w)
highest bits by w small below some =
    let pos : 0 < w = omega (arith, some) in
    let found = leading_top by w pos below in
    let j = found.0 in
    let is : j ≡ by - 1 - count_leading_zeros by w = omega (arith, found.1) in
    let one = top_digit w j found.2 found.3 in
    subst (IsHighestOne bits w) is (one_below bits w j small one, one, λ q up lt. digit_above w (suc j) q found.3 (omega (arith, up)))

-- ---- the number without its lowest one

-- the digits up to the lowest one are those of a power of two
low_part : (bits w p : ℕ) → IsLowestOne bits w p → w % 2 ^ suc p ≡ 2 ^ p
low_part bits w p is = same_from_digits (suc p) (w % 2 ^ suc p) (2 ^ p) (mod-lt w (pow_pos (suc p))) (pow-lt (omega arith)) (λ q lt. digit-mod w (suc p) q lt ∙ at q lt (cases_eq q p))
  where
    at : (q : ℕ) → q < suc p → (q ≡ p) ⊎ (q ≡ p → ⊥) → digit w q ≡ digit (2 ^ p) q
    at q lt (inl e) = ap (digit w) e ∙ is.1 ∙ sym (digit-pow_same p) ∙ ap (digit (2 ^ p)) (sym e)
    at q lt (inr ne) = is.2 q (omega (arith, lt, ne)) ∙ sym (digit-pow_other p q ne)

digit-cat_high : (a k b q : ℕ) → b < 2 ^ k → k ≤ q → digit (a * 2 ^ k + b) q ≡ digit a (q - k)
unfolding digit
digit-cat_high a k b q small le = ap (λ n. n == 1) (bit_at_cat_high a k b q small le)

digit-cat_low : (a k b q : ℕ) → q < k → digit (a * 2 ^ k + b) q ≡ digit b q
unfolding digit
digit-cat_low a k b q lt = ap (λ n. n == 1) (bit_at_cat_low a k b q lt)

-- the number less one has the digits above the lowest one, and that one no more
less_one : (bits w p q : ℕ) → IsLowestOne bits w p → (digit w q && digit (w - 1) q) ≡ (digit w q && not (q == p))
less_one bits w p q is = at (cases_order q p)
  where
    hi : ℕ
    hi = w / 2 ^ suc p

    parts : w ≡ hi * 2 ^ suc p + 2 ^ p
    parts = sym (div-add-mod' w (2 ^ suc p)) ∙ ap (λ n. hi * 2 ^ suc p + n) (low_part bits w p is)

    less : w - 1 ≡ hi * 2 ^ suc p + (2 ^ p - 1)
    less = omega (arith, parts, pow_pos p)

    short : 2 ^ p < 2 ^ suc p
    short = pow-lt (omega arith)

    at : (q ≡ p) ⊎ ((q < p) ⊎ (p < q)) → (digit w q && digit (w - 1) q) ≡ (digit w q && not (q == p))
    at (inl e) =
        let gone : digit (w - 1) q ≡ false =
        ap (λ n. digit n q) less ∙ digit-cat_low hi (suc p) (2 ^ p - 1) q (omega (arith, e))
        ∙ digit_above (2 ^ p - 1) p q (omega (arith, pow_pos p)) (omega (arith, e)) in
        ap (λ b. digit w q && b) (gone ∙ ap not (sym (eq-eqb q p e)))
    at (inr (inl lt)) = and_left (digit w q) (digit (w - 1) q) (is.2 q lt) ∙ sym (and_left (digit w q) (not (q == p)) (is.2 q lt))
    at (inr (inr gt)) =
        let same : digit (w - 1) q ≡ digit w q =
        ap (λ n. digit n q) less ∙ digit-cat_high hi (suc p) (2 ^ p - 1) q (omega (arith, short)) (omega (arith, gt))
        ∙ sym (digit-cat_high hi (suc p) (2 ^ p) q short (omega (arith, gt))) ∙ ap (λ n. digit n q) (sym parts) in
        let apart : (q == p) ≡ false = not_same q p (λ e. absurd (omega (arith, e, gt))) in
        ap (λ b. digit w q && b) same ∙ and_self (digit w q) ∙ sym (and-true (digit w q)) ∙ ap (λ b. digit w q && not b) (sym apart)

-- a number and the same less one, of which the digits are kept that are one in both
pub without_lowest : (bits w less : ℕ) → (0 < w → less ≡ w - 1) → IsWithoutLowestOne bits w (bit_and w less)
without_lowest bits w less is = record {
  none = λ no q lt. digit-and w less q ∙ and_left (digit w q) (digit less q) (no q lt);
  digits = λ p lowest q lt.
      let some : w ≡ 0 → ⊥ = (λ z. true_not_false (sym lowest.1 ∙ ap (λ n. digit n p) z ∙ digit-zero p)) in
      let at : less ≡ w - 1 = is (omega (arith, some)) in
      digit-and w less q ∙ ap (λ n. digit w q && digit n q) at ∙ less_one bits w p q lowest;
}

-- what is made of a number that is not refused, where another value stands for a refusal
pub made_of : {A : Type 0} (number : A → ℕ) (o : Option A) (other : A) (n limit : ℕ) → (IsNone o → limit ≤ n) → IfSome o (λ v. number v ≡ n) → n < limit → number (unwrap_or o other) ≡ n
made_of number None other n limit refused made small = absurd (omega (arith, small, refused refl))
made_of number (Some v) other n limit refused made small = made
