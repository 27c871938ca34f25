-- Which numbers have at most `count` digits, signed ones too.
use Rattle.std.proofs.Common.{◌≡◌, ℕ, zero, suc, ◌+◌, ◌-◌, ◌*◌, ◌/◌, ◌%◌, ◌^◌, ◌<◌, ◌≤◌, ◌&&◌, true, false, ℤ, pos, negsuc, ◌≤ℤ◌, ◌↔◌, sym, ap, subst, ◌∙◌, inl, inr, pow_mono, arith}
use Rattle.std.proofs.Math.Bool.{and-true, and-false}
use Rattle.std.proofs.lemmas.Bool.{cases_lt}
use Rattle.std.proofs.lemmas.Int.{ints}
use Rattle.std.proofs.lemmas.Nat.Bits.{ones_shr}
use Rattle.std.proofs.lemmas.Nat.{div-mul-add, div-add-mod', mod_below, pow_pos}
use Rattle.std.proofs.Math.Nat.{two-pow-succ}
use Rattle.bitvec.specs.Digit.{digit}
use Rattle.bitvec.specs.SameDigits.{same_from_digits}
use Rattle.bitvec.proofs.DigitLemmas.{digit-mod, digit_above}
use Rattle.bitvec_slice.specs.Signed.{FitsSignedDigits}
use Rattle.bitvec_slice.proofs.FieldLemmas.{small_from_digits}

-- a number that has no digits past the first `count` is below two to the `count`
pub above_none : (n count : ℕ) → n / 2 ^ count ≡ 0 → n < 2 ^ count
above_none n count none =
    let parts = div-add-mod' n (2 ^ count) in
    let small = mod_below n (2 ^ count) (pow_pos count) in
    let product : n / 2 ^ count * 2 ^ count ≡ 0 * 2 ^ count = ap (λ k. k * 2 ^ count) none in
    omega (arith, parts, small, product)

pub none_above : (n count : ℕ) → n < 2 ^ count → n / 2 ^ count ≡ 0
none_above n count below =
    let whole : n ≡ 0 * 2 ^ count + n = omega arith in
    ap (λ k. k / 2 ^ count) whole ∙ div-mul-add 0 (2 ^ count) n below

-- a signed number of `k + 1` digits lies between the least and the greatest
pub digits_between : (k : ℕ) (z : ℤ) → (z ≤ℤ pos (2 ^ k - 1)) × (negsuc (2 ^ k - 1) ≤ℤ z) ↔ FitsSignedDigits (suc k) z
digits_between k (pos n) = let twice = two-pow-succ k in let some = pow_pos k in (λ h. omega (arith, ints, twice, some, h.0), λ h. (omega (arith, ints, twice, some, h), omega (arith, ints)))
digits_between k (negsuc n) = let twice = two-pow-succ k in let some = pow_pos k in (λ h. omega (arith, ints, twice, some, h.1), λ h. (omega (arith, ints), omega (arith, ints, twice, some, h)))

-- half of `count` ones
pub half_ones : (count : ℕ) → 0 < count → count ≤ 128 → (2 ^ 128 - 1) / 2 ^ (128 - count) / 2 ≡ 2 ^ (count - 1) - 1
half_ones zero some most = absurd (omega arith)
half_ones (suc k) some most =
    let e : 128 - (128 - suc k) ≡ suc k = omega (arith, most) in
    let less : suc k - 1 ≡ k = omega arith in
    let ones : (2 ^ 128 - 1) / 2 ^ (128 - suc k) ≡ 2 ^ suc k - 1 = ones_shr 128 (128 - suc k) (omega arith) ∙ ap (λ n. 2 ^ n - 1) e in
    let twice = two-pow-succ k in
    let positive = pow_pos k in
    let half : (2 ^ suc k - 1) / 2 ≡ 2 ^ k - 1 = omega (arith, twice, positive) in
    ap (λ n. n / 2) ones ∙ half ∙ ap (λ n. 2 ^ n - 1) (sym less)

-- the same by the number of digits
pub digits_from_between : (count : ℕ) (z : ℤ) → 0 < count → z ≤ℤ pos (2 ^ (count - 1) - 1) → negsuc (2 ^ (count - 1) - 1) ≤ℤ z → FitsSignedDigits count z
digits_from_between zero z some most least = absurd (omega arith)
digits_from_between (suc k) z some most least =
    let less : suc k - 1 ≡ k = omega arith in
    (digits_between k z).0 (subst (λ n. z ≤ℤ pos (2 ^ n - 1)) less most, subst (λ n. negsuc (2 ^ n - 1) ≤ℤ z) less least)

pub between_from_digits : (count : ℕ) (z : ℤ) → 0 < count → FitsSignedDigits count z → (z ≤ℤ pos (2 ^ (count - 1) - 1)) × (negsuc (2 ^ (count - 1) - 1) ≤ℤ z)
between_from_digits zero z some has = absurd (omega arith)
between_from_digits (suc k) z some has =
    let less : k ≡ suc k - 1 = omega arith in
    let both = (digits_between k z).1 has in
    (subst (λ n. z ≤ℤ pos (2 ^ n - 1)) less both.0, subst (λ n. negsuc (2 ^ n - 1) ≤ℤ z) less both.1)

-- a number without its digits from `count` on, which a mask takes away
pub masked_is : (bits n mask r count : ℕ) → count ≤ bits → r < 2 ^ bits → ((p : ℕ) → p < bits → digit r p ≡ (digit n p && digit mask p))
    → ((p : ℕ) → p < bits → p < count → digit mask p ≡ true) → ((p : ℕ) → p < bits → count ≤ p → digit mask p ≡ false) → r ≡ n % 2 ^ count
masked_is bits n mask r count few fits both ones none =
    same_from_digits bits r (n % 2 ^ count) fits (omega (arith, mod_below n (2 ^ count) (pow_pos count), pow_mono few)) (λ p h. elim (cases_lt p count) [
      | inl low ↦ both p h ∙ rw (ones p h low) (and-true (digit n p)) ∙ sym (digit-mod n count p low)
      | inr high ↦ both p h ∙ rw (none p h high) (and-false (digit n p)) ∙ sym (digit_above (n % 2 ^ count) count p (mod_below n (2 ^ count) (pow_pos count)) high)
    ])

-- a number that was moved up in two steps, the second of one place, has no digit in the places that became free
pub moved_low : (bits a b count : ℕ) → ((q : ℕ) → q < count - 1 → digit a q ≡ false) → ((q : ℕ) → q < 1 → digit b q ≡ false) → ((q : ℕ) → 1 + q < bits → digit b (1 + q) ≡ digit a q)
    → (p : ℕ) → p < count → p < bits → digit b p ≡ false
moved_low bits a b count low first moved zero h inside = first zero (omega arith)
moved_low bits a b count low first moved (suc q) h inside =
    let next : suc q ≡ 1 + q = omega arith in
    ap (digit b) next ∙ moved q (omega (arith, inside)) ∙ low q (omega (arith, h))

-- a number of `count` digits without its lowest `down`
pub dropped_small : (bits n down left count m : ℕ) → down + left ≡ count → n < 2 ^ count → m < 2 ^ bits → ((p : ℕ) → down + p < bits → digit m p ≡ digit n (down + p)) → ((p : ℕ) → p < bits → bits ≤ down + p → digit m p ≡ false)
    → m < 2 ^ left
dropped_small bits n down left count m all small below moved high = small_from_digits m bits left below (λ p h. elim (cases_lt (down + p) bits) [
  | inl inside ↦ moved p inside ∙ digit_above n count (down + p) small (omega (arith, h, all))
  | inr above ↦ elim (cases_lt p bits) [
    | inl less ↦ high p less above
    | inr more ↦ digit_above m bits p below more
  ]
])
