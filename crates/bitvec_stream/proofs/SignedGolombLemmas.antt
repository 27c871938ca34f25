-- The numbers of signed numbers' codes.
use Rattle.std.proofs.Common.{◌≡◌, ℕ, zero, suc, ◌+◌, ◌-◌, ◌*◌, ◌/◌, ◌%◌, ◌^◌, ◌≤◌, ℤ, pos, negsuc, ◌-ℤ◌, refl, sym, ap, ◌∙◌, inl, inr, arith}
use Rattle.std.proofs.lemmas.Bool.{cases_lt}
use Rattle.std.proofs.lemmas.Int.{ints}
use Rattle.bitvec_slice.specs.Signed.{FitsSignedDigits}
use Rattle.bitvec_slice.proofs.SignedLemmas.{digits_more}
use Rattle.bitvec_stream.specs.Golomb.{signed_place, IsSignedLacking}

-- an even number is that of its half, turned; an odd one is that of its greater half
pub place_even : (h : ℕ) → signed_place (pos 0 -ℤ pos h) ≡ 2 * h
place_even zero = refl
place_even (suc h) = let e : pos 0 -ℤ pos (suc h) ≡ negsuc h = omega (arith, ints) in ap signed_place e

pub place_odd : (h : ℕ) → signed_place (pos (h + 1)) ≡ 2 * h + 1
place_odd h = omega arith

-- no two signed numbers have one place
pub one_signed : (y z : ℤ) → signed_place y ≡ signed_place z → y ≡ z
one_signed (pos a) (pos b) e = ap pos (same a b e)
  where
    same : (a b : ℕ) → 2 * a - 1 ≡ 2 * b - 1 → a ≡ b
    same a b e = omega (arith, e)
one_signed (pos a) (negsuc b) e = absurd (omega (arith, e))
one_signed (negsuc a) (pos b) e = absurd (omega (arith, e))
one_signed (negsuc a) (negsuc b) e = let same : a ≡ b = omega (arith, e) in ap negsuc same

-- each number is the place of one
pub place_back : (n : ℕ) → (z : ℤ) × (signed_place z ≡ n)
place_back n = elim (cases_lt (n % 2) 1) [
  | inl even ↦ (let e : n ≡ 2 * (n / 2) = omega (arith, even) in (pos 0 -ℤ pos (n / 2), place_even (n / 2) ∙ sym e))
  | inr odd ↦ (let e : n ≡ 2 * (n / 2) + 1 = omega (arith, odd) in (pos (n / 2 + 1), place_odd (n / 2) ∙ sym e))
]

-- what passes 128 digits passes fewer
pub lacking_less : (bits n : ℕ) → bits ≤ 128 → IsSignedLacking 128 n → IsSignedLacking bits n
lacking_less bits n h lacking = (lacking.0, lacking.1, λ has. lacking.2 (digits_more bits 128 lacking.0 h has))

-- a place past those of the numbers of 128 digits
pub lacking_beyond : (n : ℕ) → 2 ^ 128 ≤ n + 1 → (n ≡ 2 ^ 128 → ⊥) → IsSignedLacking 128 n
lacking_beyond n from other = let found = place_back n in (found.0, sym found.1, λ has. no_digits found.0 n found.1 from other has)
  where
    no_digits : (z : ℤ) (n : ℕ) → signed_place z ≡ n → 2 ^ 128 ≤ n + 1 → (n ≡ 2 ^ 128 → ⊥) → FitsSignedDigits 128 z → ⊥
    no_digits (pos k) n is from other has = omega (arith, is, from, has)
    no_digits (negsuc k) n is from other has = other (omega (arith, is, from, has))
