-- Signed numbers as two's complements of `len` digits.
use Rattle.std.proofs.Common.{◌≡◌, ℕ, zero, suc, ◌+◌, ◌-◌, ◌*◌, ◌/◌, ◌%◌, ◌^◌, ◌<◌, ◌≤◌, ◌==◌, true, ℤ, pos, negsuc, ◌-ℤ◌, to_z, of_z, to_z-of_z, refl, sym, ap, subst, ◌∙◌, inl, inr, arith}
use Rattle.std.specs.Prelude.{FitsSigned}
use Rattle.std.specs.Int.{w128, cast_unsigned}
use Rattle.std.proofs.lemmas.Bool.{cases_lt}
use Rattle.std.proofs.lemmas.Int.{ints}
use Rattle.std.proofs.lemmas.Nat.Bits.{ones_shr}
use Rattle.std.proofs.lemmas.Nat.{div-mul-add, mod-mul-add, div-add-mod', mod_below, pow_pos, pow-add}
use Rattle.std.proofs.Math.Nat.{two-pow-succ, add-mul, mod-eq_of_lt, mul-le-mul_right}
use Rattle.std.proofs.Math.Pow.{pow_mono}
use Rattle.bitvec.specs.Digit.{digit}
use Rattle.bitvec.proofs.DigitLemmas.{digit_above}
use Rattle.bitvec_slice.specs.Signed.{signed_of, complement_of, FitsSignedDigits}

-- two to the number of digits is twice two to one less
pub half : (len : ℕ) → 0 < len → 2 ^ len ≡ 2 ^ (len - 1) + 2 ^ (len - 1)
half zero h = absurd (omega arith)
half (suc k) h = let e : suc k - 1 ≡ k = omega arith in rw e (two-pow-succ k)

-- the highest digit, by the number's size
high_digit : (p n : ℕ) → 2 ^ p ≤ n → n < 2 ^ p + 2 ^ p → digit n p ≡ true
unfolding digit
high_digit p n from upto =
    let rest : n - 2 ^ p < 2 ^ p = omega (arith, from, upto) in
    let whole : n ≡ 1 * 2 ^ p + (n - 2 ^ p) = omega (arith, from) in
    ap (λ m. m % 2 == 1) (ap (λ m. m / 2 ^ p) whole ∙ div-mul-add 1 (2 ^ p) (n - 2 ^ p) rest)

pub signed_low : (len n : ℕ) → 2 * n < 2 ^ len → signed_of len n ≡ pos n
signed_low zero n h =
    let none : n < 2 ^ (zero - 1) = omega (arith, h) in
    rw (digit_above n (zero - 1) (zero - 1) none (omega arith)) refl
signed_low (suc k) n h =
    let less : n < 2 ^ (suc k - 1) = omega (arith, h, half (suc k) (omega arith)) in
    rw (digit_above n (suc k - 1) (suc k - 1) less (omega arith)) refl

pub signed_high : (len n : ℕ) → 0 < len → n < 2 ^ len → 2 ^ len ≤ 2 * n → signed_of len n ≡ negsuc (2 ^ len - 1 - n)
signed_high len n some below h =
    let e = half len some in
    rw (high_digit (len - 1) n (omega (arith, e, h)) (omega (arith, e, below))) (omega (arith, ints, below))

-- a signed number of `len` digits has them
pub signed_digits : (len n : ℕ) → n < 2 ^ len → FitsSignedDigits len (signed_of len n)
signed_digits len n below = elim (cases_lt (2 * n) (2 ^ len)) [
  | inl low ↦ subst (FitsSignedDigits len) (sym (signed_low len n low)) low
  | inr high ↦ subst (FitsSignedDigits len) (sym (signed_high len n (some len n below high) below high)) (omega (arith, below, high))
]
  where
    some : (len n : ℕ) → n < 2 ^ len → 2 ^ len ≤ 2 * n → 0 < len
    some zero n below high = absurd (omega (arith, below, high))
    some (suc k) n below high = omega arith

-- and it has more
pub digits_more : (len more : ℕ) (z : ℤ) → len ≤ more → FitsSignedDigits len z → FitsSignedDigits more z
digits_more len more (pos n) h digits = let p : 2 ^ len ≤ 2 ^ more = pow_mono h in omega (arith, p, digits)
digits_more len more (negsuc n) h digits = let p : 2 ^ len ≤ 2 ^ more = pow_mono h in omega (arith, p, digits)

-- a number less a greater multiple of m, from the next multiple on
rest_of_less : (whole m n : ℕ) → 0 < m → n < whole * m → (whole * m - suc n) % m ≡ m - 1 - n % m
rest_of_less whole m n some below =
    let parts = div-add-mod' n m in
    let small = mod_below n m some in
    let less : n / m < whole = less_than (n / m) whole (n % m) n parts below in
    let t : ℕ = whole - 1 - n / m in
    let e : whole ≡ t + 1 + n / m = omega (arith, less) in
    let product : whole * m ≡ t * m + 1 * m + n / m * m = ap (λ k. k * m) e ∙ add-mul (t + 1) (n / m) m ∙ ap (λ k. k + n / m * m) (add-mul t 1 m) in
    let same : whole * m - suc n ≡ t * m + (m - 1 - n % m) = omega (arith, product, parts, small) in
    ap (λ k. k % m) same ∙ mod-mul-add t m (m - 1 - n % m) (omega (arith, some))
  where
    less_than : (q whole r n : ℕ) → q * m + r ≡ n → n < whole * m → q < whole
    less_than q whole r n is below = elim (cases_lt q whole) [
      | inl h ↦ h
      | inr h ↦ (
          let more : whole * m ≤ q * m = mul-le-mul_right m h in
          absurd (omega (arith, more, is, below)))
    ]

-- the low digits of a signed number's 128 are those of its two's complement
pub low_complement : (len : ℕ) (z : ℤ) → len ≤ 128 → FitsSigned w128 z → cast_unsigned w128 z % 2 ^ len ≡ complement_of len z
low_complement len (pos n) h fits = refl
low_complement len (negsuc n) h fits =
    let e : 128 - len + len ≡ 128 = omega (arith, h) in
    let whole : 2 ^ 128 ≡ 2 ^ (128 - len) * 2 ^ len = ap (λ k. 2 ^ k) (sym e) ∙ pow-add 2 (128 - len) len in
    let below : n < 2 ^ (128 - len) * 2 ^ len = omega (arith, whole, fits.sfits) in
    ap (λ k. (k - suc n) % 2 ^ len) whole ∙ rest_of_less (2 ^ (128 - len)) (2 ^ len) n (pow_pos len) below

-- a signed number of `len` digits is that of its two's complement
pub signed_back : (len : ℕ) (z : ℤ) → FitsSignedDigits len z → signed_of len (complement_of len z) ≡ z
signed_back len (pos n) h =
    let same : n % 2 ^ len ≡ n = mod-eq_of_lt {n = n} {m = 2 ^ len} (omega (arith, h)) in
    rw same (signed_low len n h)
signed_back len (negsuc n) h =
    let same : n % 2 ^ len ≡ n = mod-eq_of_lt {n = n} {m = 2 ^ len} (omega (arith, h)) in
    let r : ℕ = 2 ^ len - 1 - n in
    let back : 2 ^ len - 1 - r ≡ n = omega (arith, h) in
    rw same (signed_high len r (some len h) (omega (arith, h)) (omega (arith, h)) ∙ ap negsuc back)
  where
    some : (len : ℕ) → 2 * suc n ≤ 2 ^ len → 0 < len
    some zero h = absurd (omega (arith, h))
    some (suc k) h = omega arith

-- `len` digits of 128 that are all one
pub ones_of : (len : ℕ) → len ≤ 128 → (2 ^ 128 - 1) / 2 ^ (128 - len) ≡ 2 ^ len - 1
ones_of len h = let e : 128 - (128 - len) ≡ len = omega (arith, h) in ones_shr 128 (128 - len) (omega arith) ∙ ap (λ k. 2 ^ k - 1) e

-- one less than minus a number, as the code computes it
pub turned_number : (r : ℕ) → r < 2 ^ 127 → to_z w128 (of_z w128 (negsuc 0 -ℤ to_z w128 r)) ≡ negsuc r
turned_number r h = omega (arith, ints)

-- the low digits of the 128 that are stored of a signed number
pub low_digits : (len n : ℕ) (y z : ℤ) → len ≤ 128 → FitsSigned w128 y → n ≡ cast_unsigned w128 (to_z w128 (of_z w128 y)) → y ≡ z → n % 2 ^ len ≡ complement_of len z
low_digits len n y z h fits is same = ap (λ k. k % 2 ^ len) (is ∙ ap (cast_unsigned w128) (to_z-of_z {w = w128} {z = y} fits)) ∙ low_complement len y h fits ∙ ap (complement_of len) same

-- a signed number that was stored, and loaded
pub loaded_back : (len n m : ℕ) (z : ℤ) → m ≡ n % 2 ^ len → n % 2 ^ len ≡ complement_of len z → FitsSignedDigits len z → signed_of len m ≡ z
loaded_back len n m z loaded low has = ap (signed_of len) (loaded ∙ low) ∙ signed_back len z has

-- a signed number of `len` digits, passed on as one of a type that has them
pub passed_digits : (len more : ℕ) (y z : ℤ) → FitsSigned w128 y → y ≡ z → len ≤ more → FitsSignedDigits len z → FitsSignedDigits more (to_z w128 (of_z w128 y))
passed_digits len more y z fits same h has =
    subst (FitsSignedDigits more) (sym (to_z-of_z {w = w128} {z = y} fits ∙ same)) (digits_more len more z h has)
