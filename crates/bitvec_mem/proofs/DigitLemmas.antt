-- The digits of what the operators on bits compute.
use Rattle.std.proofs.Common.{◌≡◌, ℕ, zero, suc, ◌+◌, ◌-◌, ◌*◌, ◌/◌, ◌%◌, ◌^◌, ◌<◌, ◌≤◌, min, max, Bool, true, false, not, ◌&&◌, ◌||◌, ◌==◌, if◌then◌else◌, ◌⊎◌, inl, inr, refl, sym, ap, ◌∙◌, subst, arith, add-zero, lit<}
use Rattle.std.proofs.Math.Numerals.{one-add}
use Rattle.std.specs.Int.{bit_at, Width, bit_not}
use Rattle.std.proofs.lemmas.Nat.Bits.{bit_at-lt, bit_at_and, bit_at_or, bit_at_xor, bit_at_not, bit_at_above, bit_at-zero, bit_at_ones, bit_at-pow_same, bit_at-pow_other, bit_at_cat_high, bit_at_cat_low}
use Rattle.std.proofs.lemmas.Nat.{shr-shr, pow_pos, div-add-mod', shr_le, ones_cat}
use Rattle.std.proofs.Math.Nat.{mod-lt}
use Rattle.std.proofs.Math.Pow.{shr_lt, pow-lt, pow_mono}
use Rattle.std.proofs.lemmas.Bool.{cases_order, cases_eq, cases_lt, eqb-true, eq-eqb}
use Rattle.std.specs.Int.Bits.{bit_and, bit_or, bit_xor}
use Rattle.std.specs.Int.Count.{ones}
use mir.Val.{bits}
use Rattle.bitvec_mem.specs.Digit.{digit, exclusive_or, count_below}
use Rattle.bitvec_mem.specs.SameDigits.{bit_cases, two_bits, same_from_digits}

pub not_same : (a b : ℕ) → (a ≡ b → ⊥) → (a == b) ≡ false
not_same a b h = at (a == b) refl
  where
    at : (c : Bool) → (a == b) ≡ c → (a == b) ≡ false
    at true e = absurd (h (eqb-true a b e))
    at false e = e

pub digit-and : (a b p : ℕ) → digit (bit_and a b) p ≡ (digit a p && digit b p)
unfolding digit
digit-and a b p = ap (λ n. n == 1) (bit_at_and a b p) ∙ two_bits (λ x y. (min x y == 1) ≡ ((x == 1) && (y == 1))) refl refl refl refl a b p

pub digit-or : (a b p : ℕ) → digit (bit_or a b) p ≡ (digit a p || digit b p)
unfolding digit
digit-or a b p = ap (λ n. n == 1) (bit_at_or a b p) ∙ two_bits (λ x y. (max x y == 1) ≡ ((x == 1) || (y == 1))) refl refl refl refl a b p

pub digit-xor : (a b p : ℕ) → digit (bit_xor a b) p ≡ exclusive_or (digit a p) (digit b p)
unfolding digit
digit-xor a b p = ap (λ n. n == 1) (bit_at_xor a b p) ∙ two_bits (λ x y. ((x + y) % 2 == 1) ≡ exclusive_or (x == 1) (y == 1)) refl refl refl refl a b p

pub digit-not : (w : Width) (a p : ℕ) → a < 2 ^ bits w → p < bits w → digit (bit_not w a) p ≡ not (digit a p)
unfolding digit
digit-not w a p ha hp = ap (λ n. n == 1) (bit_at_not w a p ha hp) ∙ bit_cases (λ x. ((1 - x) == 1) ≡ not (x == 1)) refl refl (bit_at a p) (bit_at-lt a p)

-- the digits of the low part are those of the number
pub digit-mod : (w k p : ℕ) → p < k → digit (w % 2 ^ k) p ≡ digit w p
unfolding digit
digit-mod w k p h =
    sym (ap (λ x. x == 1) (ap (λ n. bit_at n p) (sym (div-add-mod' w (2 ^ k))) ∙ bit_at_cat_low (w / 2 ^ k) k (w % 2 ^ k) p h))

pub digit-shl_low : (k w n p : ℕ) → p < n → p < k → digit (w * 2 ^ n % 2 ^ k) p ≡ false
unfolding digit
digit-shl_low k w n p below within =
    digit-mod (w * 2 ^ n) k p within
    ∙ ap (λ x. x == 1) (ap (λ x. bit_at x p) (sym (add-zero (w * 2 ^ n))) ∙ bit_at_cat_low w n 0 p below ∙ bit_at-zero p)

pub digit-shl_high : (k w n p : ℕ) → n + p < k → digit (w * 2 ^ n % 2 ^ k) (n + p) ≡ digit w p
unfolding digit
digit-shl_high k w n p within =
    let back : n + p - n ≡ p = omega arith in
    digit-mod (w * 2 ^ n) k (n + p) within
    ∙ ap (λ x. x == 1) (ap (λ x. bit_at x (n + p)) (sym (add-zero (w * 2 ^ n))) ∙ bit_at_cat_high w n 0 (n + p) (pow_pos n) (omega arith) ∙ ap (bit_at w) back)

pub digit-shr : (w n p : ℕ) → digit (w / 2 ^ n) p ≡ digit w (n + p)
unfolding digit
digit-shr w n p = ap (λ x. x % 2 == 1) (shr-shr w n p)

pub shr_fits : (k w n : ℕ) → w < 2 ^ k → w / 2 ^ n < 2 ^ k
shr_fits k w n h = omega (arith, shr_le w n)

-- a number below 2 ^ k has no digit from k on
pub digit_above : (w k p : ℕ) → w < 2 ^ k → k ≤ p → digit w p ≡ false
unfolding digit
digit_above w k p h le = ap (λ x. x == 1) (bit_at_above w k p h le)

pub digit-zero : (p : ℕ) → digit 0 p ≡ false
unfolding digit
digit-zero p = ap (λ x. x == 1) (bit_at-zero p)

pub digit_all : (k p : ℕ) → p < k → digit (2 ^ k - 1) p ≡ true
unfolding digit
digit_all k p h = ap (λ x. x == 1) (bit_at_ones k p h)

pub digit-pow_same : (p : ℕ) → digit (2 ^ p) p ≡ true
unfolding digit
digit-pow_same p = ap (λ x. x == 1) (bit_at-pow_same p)

pub digit-pow_other : (p q : ℕ) → (q ≡ p → ⊥) → digit (2 ^ p) q ≡ false
unfolding digit
digit-pow_other p q h = ap (λ x. x == 1) (bit_at-pow_other p q h)

-- a power of two has its own digit alone
pub digit-pow : (p q : ℕ) → digit (2 ^ p) q ≡ (q == p)
digit-pow p q = at (cases_eq q p)
  where
    at : (q ≡ p) ⊎ (q ≡ p → ⊥) → digit (2 ^ p) q ≡ (q == p)
    at (inl e) = ap (digit (2 ^ p)) e ∙ digit-pow_same p ∙ sym (eq-eqb q p e)
    at (inr ne) = digit-pow_other p q ne ∙ sym (not_same q p ne)

-- ---- counting digits

pub count_below-same : (f g : ℕ → Bool) (n : ℕ) → ((p : ℕ) → p < n → f p ≡ g p) → count_below f n ≡ count_below g n
unfolding count_below
count_below-same f g zero h = refl
count_below-same f g (suc n) h =
    rw (h n (omega arith)) (ap (λ x. (if g n then 1 else 0) + x) (count_below-same f g n (λ p lt. h p (omega arith))))

ones_bit : (x : ℕ) → x < 2 → ones x ≡ (if (x % 2 == 1) then 1 else 0)
unfolding ones
ones_bit = bit_cases (λ x. ones x ≡ (if (x % 2 == 1) then 1 else 0)) refl refl

count_zero : (f : ℕ → Bool) → count_below f 0 ≡ 0
unfolding count_below
count_zero f = refl

ones_zero : ones 0 ≡ 0
unfolding ones
ones_zero = refl

count_at : (f : ℕ → Bool) (n : ℕ) → (if f n then 1 else 0) + count_below f n ≡ count_below f (suc n)
unfolding count_below
count_at f n = refl

ones_bit_digit : (k w : ℕ) → w / 2 ^ k < 2 → ones (w / 2 ^ k) ≡ (if digit w k then 1 else 0)
unfolding digit
ones_bit_digit k w h = ones_bit (w / 2 ^ k) h

-- the count of a number's digits is what `count_ones` computes
pub ones-count_below : (k w : ℕ) → w < 2 ^ k → ones w ≡ count_below (digit w) k
ones-count_below zero w h = let e : w ≡ 0 = omega arith in ap ones e ∙ ones_zero ∙ sym (count_zero (digit w))
ones-count_below (suc k) w h =
    let rest = mod-lt w (pow_pos k) in
    ap ones (sym (div-add-mod' w (2 ^ k)))
    ∙ ones_cat k (w / 2 ^ k) (w % 2 ^ k) rest
    ∙ ap (λ x. x + ones (w % 2 ^ k)) (ones_bit_digit k w (shr_lt 1 k (subst (λ x. w < 2 ^ x) (sym (one-add k)) h)))
    ∙ ap (λ x. (if digit w k then 1 else 0) + x) (ones-count_below k (w % 2 ^ k) rest ∙ count_below-same (digit (w % 2 ^ k)) (digit w) k (λ p lt. digit-mod w k p lt))
    ∙ count_at (digit w) k

-- ---- numbers with one digit

pub pow_from_digits : (k n r : ℕ) → r < 2 ^ k → n < k → ((p : ℕ) → p < n → digit r p ≡ false) → ((p : ℕ) → n + p < k → digit r (n + p) ≡ digit 1 p) → r ≡ 2 ^ n
pow_from_digits k n r small within below moved = same_from_digits k r (2 ^ n) small (pow-lt within) (λ p lt. at p lt (cases_order p n))
  where
    at : (p : ℕ) → p < k → (p ≡ n) ⊎ ((p < n) ⊎ (n < p)) → digit r p ≡ digit (2 ^ n) p
    at p lt (inl e) =
        let e0 : p ≡ n + 0 = omega arith in
        let fits : n + 0 < k = omega arith in
        ap (digit r) e0 ∙ moved 0 fits ∙ digit-pow_same 0 ∙ sym (digit-pow_same n) ∙ ap (digit (2 ^ n)) (sym e)
    at p lt (inr (inl l)) = let ne : p ≡ n → ⊥ = (λ e. absurd (omega arith)) in below p l ∙ sym (digit-pow_other n p ne)
    at p lt (inr (inr g)) =
        let e : p ≡ n + (p - n) = omega arith in
        let fits : n + (p - n) < k = omega arith in
        let ne : p ≡ n → ⊥ = (λ e. absurd (omega arith)) in
        let up : 1 ≤ p - n = omega arith in
        ap (digit r) e ∙ moved (p - n) fits ∙ digit_above 1 1 (p - n) (lit< tt) up ∙ sym (digit-pow_other n p ne)

ones_one : ones 1 ≡ 1
unfolding ones
ones_one = refl

pub count_below-pow : (k n : ℕ) → n < k → count_below (digit (2 ^ n)) k ≡ 1
count_below-pow k n h =
    let e : 2 ^ n ≡ 1 * 2 ^ n + 0 = omega arith in
    sym (ones-count_below k (2 ^ n) (pow-lt h)) ∙ ap ones e ∙ ones_cat n 1 0 (pow_pos n) ∙ ap (λ x. x + ones 0) ones_one ∙ ap (λ x. 1 + x) ones_zero

-- where the count is 0, no test passes
pub none_place : (f : ℕ → Bool) (k : ℕ) → count_below f k ≡ 0 → (q : ℕ) → q < k → f q ≡ false
unfolding count_below
none_place f zero h q lt = absurd (omega arith)
none_place f (suc k) h q lt = at (f k) refl (cases_order q k) (none_place f k)
  where
    at : (b : Bool) → f k ≡ b → (q ≡ k) ⊎ ((q < k) ⊎ (k < q)) → (count_below f k ≡ 0 → (q : ℕ) → q < k → f q ≡ false) → f q ≡ false
    at true e o ih = let one : 1 + count_below f k ≡ 0 = rw e at h in absurd (omega arith)
    at false e (inl same) ih = ap f same ∙ e
    at false e (inr (inl l)) ih = let rest : 0 + count_below f k ≡ 0 = rw e at h in ih (omega arith) q l
    at false e (inr (inr g)) ih = absurd (omega arith)

-- a test that passes at p alone, among the numbers below k
pub record IsOnlyPlace (f : ℕ → Bool) (k p : ℕ) : Type 0 where
  pub within : p < k
  pub passes : f p ≡ true
  pub alone : (q : ℕ) → q < k → (q ≡ p → ⊥) → f q ≡ false

-- where the count is 1, just one test passes
pub one_place : (f : ℕ → Bool) (k : ℕ) → count_below f k ≡ 1 → (p : ℕ) × IsOnlyPlace f k p
unfolding count_below
one_place f zero h = absurd (omega arith)
one_place f (suc k) h = at (f k) refl (one_place f k)
  where
    below_of : (q : ℕ) → q < suc k → (q ≡ k → ⊥) → q < k
    below_of q lt ne = omega arith

    other : f k ≡ false → (p : ℕ) → IsOnlyPlace f k p → (q : ℕ) → (q ≡ k) ⊎ ((q < k) ⊎ (k < q)) → q < suc k → (q ≡ p → ⊥) → f q ≡ false
    other e p found q (inl same) lt ne = ap f same ∙ e
    other e p found q (inr (inl l)) lt ne = found.alone q l ne
    other e p found q (inr (inr g)) lt ne = absurd (omega arith)

    at : (b : Bool) → f k ≡ b → (count_below f k ≡ 1 → (p : ℕ) × IsOnlyPlace f k p) → (p : ℕ) × IsOnlyPlace f (suc k) p
    at true e ih =
        let one : 1 + count_below f k ≡ 1 = rw e at h in
        let none : count_below f k ≡ 0 = omega arith in
        (k, record { within = omega arith; passes = e; alone = λ q lt ne. none_place f k none q (below_of q lt ne) })
    at false e ih =
        let rest : 0 + count_below f k ≡ 1 = rw e at h in
        let found = ih (omega arith) in
        let inside : found.0 < k = found.1.within in
        (found.0, record { within = omega arith; passes = found.1.passes; alone = λ q lt ne. other e found.0 found.1 q (cases_order q k) lt ne })

-- a number with one digit is a power of two
pub one_digit : (k n : ℕ) → n < 2 ^ k → count_below (digit n) k ≡ 1 → (p : ℕ) × (p < k) × (n ≡ 2 ^ p)
one_digit k n small h =
    let found = one_place (digit n) k h in
    (found.0, found.1.within, same_from_digits k n (2 ^ found.0) small (pow-lt found.1.within) (λ q lt. at found.0 found.1 q lt (cases_eq q found.0)))
  where
    at : (p : ℕ) → IsOnlyPlace (digit n) k p → (q : ℕ) → q < k → (q ≡ p) ⊎ (q ≡ p → ⊥) → digit n q ≡ digit (2 ^ p) q
    at p only q lt (inl e) = ap (digit n) e ∙ only.passes ∙ sym (digit-pow_same p) ∙ ap (digit (2 ^ p)) (sym e)
    at p only q lt (inr ne) = only.alone q lt ne ∙ sym (digit-pow_other p q ne)

pub true_not_false : true ≡ false → ⊥
true_not_false e = cc

and-false : (b : Bool) → (b && false) ≡ false
and-false true = refl
and-false false = refl

-- the word under a mask of one digit is not zero just where that digit is one
pub meets : (k m s p r : ℕ) → r < 2 ^ k → s < 2 ^ k → s ≡ 2 ^ p → ((q : ℕ) → q < k → digit r q ≡ (digit m q && digit s q)) → not (r == 0) ≡ digit m p
meets k m s p r small fits is digits = at (digit m p) refl
  where
    within : p < k
    within = elim (cases_lt p k) [ inl l ↦ l | inr g ↦ absurd (omega (arith, pow_mono g)) ]

    here : digit r p ≡ (digit m p && true)
    here = digits p within ∙ ap (λ x. digit m p && digit x p) is ∙ ap (λ x. digit m p && x) (digit-pow_same p)

    at : (b : Bool) → digit m p ≡ b → not (r == 0) ≡ digit m p
    at true e =
        let set : digit r p ≡ true = here ∙ ap (λ x. x && true) e in
        let apart : r ≡ 0 → ⊥ = (λ z. true_not_false (sym set ∙ ap (λ x. digit x p) z ∙ digit-zero p)) in
        ap not (not_same r 0 apart) ∙ sym e
    at false e = ap (λ x. not (x == 0)) (same_from_digits k r 0 small (pow_pos k) (λ q lt. none q lt (cases_eq q p))) ∙ sym e
      where
        none : (q : ℕ) → q < k → (q ≡ p) ⊎ (q ≡ p → ⊥) → digit r q ≡ digit 0 q
        none q lt (inl s) = ap (digit r) s ∙ here ∙ ap (λ x. x && true) e ∙ sym (digit-zero q)
        none q lt (inr ne) = digits q lt ∙ ap (λ x. digit m q && digit x q) is ∙ ap (λ x. digit m q && x) (digit-pow_other p q ne) ∙ and-false (digit m q) ∙ sym (digit-zero q)

pub ruleset digit_rules = (digit-and, digit-or, digit-xor, digit-mod, digit-shl_low, digit-shl_high, digit-shr)
