-- A number below a power of two is known by its digits. Each register's law cites this.
use Rattle.std.proofs.Common.{◌≡◌, ℕ, zero, suc, ◌^◌, ◌<◌, ◌==◌, refl, arith}
use Rattle.std.specs.Int.{bit_at}
use Rattle.std.proofs.lemmas.Nat.Bits.{bit_at-lt, same_from_bits_below}
use Rattle.bitvec_mem.specs.Digit.{digit}

pub bit_cases : (P : ℕ → Type 0) → P 0 → P 1 → (x : ℕ) → x < 2 → P x
bit_cases P p q zero h = p
bit_cases P p q (suc zero) h = q
bit_cases P p q (suc (suc r)) h = absurd (omega arith)

pub two_bits : (P : ℕ → ℕ → Type 0) → P 0 0 → P 0 1 → P 1 0 → P 1 1 → (a b i : ℕ) → P (bit_at a i) (bit_at b i)
two_bits P p q r s a b i =
    bit_cases (λ x. P x (bit_at b i)) (bit_cases (P 0) p q (bit_at b i) (bit_at-lt b i)) (bit_cases (P 1) r s (bit_at b i) (bit_at-lt b i)) (bit_at a i) (bit_at-lt a i)

-- two numbers below 2 ^ k with the same digits below k are equal
pub same_from_digits : (k a b : ℕ) → a < 2 ^ k → b < 2 ^ k → ((p : ℕ) → p < k → digit a p ≡ digit b p) → a ≡ b
unfolding digit
same_from_digits k a b ha hb h =
    same_from_bits_below k a b ha hb (λ p lt. two_bits (λ x y. ((x == 1) ≡ (y == 1)) → x ≡ y) (λ _. refl) (λ e. cc) (λ e. cc) (λ _. refl) a b p (h p lt))
