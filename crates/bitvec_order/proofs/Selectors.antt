-- The number that a one moved up makes.
use Rattle.std.proofs.Common.{◌≡◌, ℕ, ◌+◌, ◌<◌, ◌^◌, false, ap, ◌∙◌}
use Rattle.bitvec_mem.specs.Digit.{digit, count_below}
use Rattle.bitvec_mem.proofs.DigitLemmas.{pow_from_digits, count_below-pow}
use Rattle.bitvec_order.specs.Index.{HasOneDigit}

-- a one moved up by n is the power of two of n
pub power_from_shift : (width n one r : ℕ) → n < width → one ≡ 1 → r < 2 ^ width → ((p : ℕ) → p < n → digit r p ≡ false) → ((p : ℕ) → n + p < width → digit r (n + p) ≡ digit one p) → r ≡ 2 ^ n
power_from_shift width n one r within is small low moved = pow_from_digits width n r small within low (λ p h. moved p h ∙ ap (λ x. digit x p) is)

-- a power of two below the width has one digit
pub one_digit-power : (width n r : ℕ) → n < width → r ≡ 2 ^ n → HasOneDigit width r
one_digit-power width n r within is = ap (λ x. count_below (digit x) width) is ∙ count_below-pow width n within
