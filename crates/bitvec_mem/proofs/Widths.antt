-- The digits of what the operators compute, at each width: instances of the lemmas over any width.
use Rattle.std.proofs.Common.{◌≡◌, ℕ, ◌+◌, ◌-◌, ◌*◌, ◌/◌, ◌%◌, ◌^◌, ◌<◌, ◌≤◌, false, not, ◌∙◌, w8, w16, w32, w64}
use Rattle.std.specs.Int.{w128}
use Rattle.std.specs.Int.Count.{ones}
use Rattle.std.proofs.lemmas.Nat.{or_lt, xor_lt}
use Rattle.std.specs.Int.Bits.{bit_or, bit_xor}
use Rattle.bitvec_mem.specs.Digit.{digit, count_below}
use Rattle.bitvec_mem.proofs.DigitLemmas.{digit_rules, digit-not, digit-shl_low, digit-shl_high, digit-shr, digit_above, ones-count_below}

pub or_below_8 : (a b : ℕ) → a < 256 → b < 256 → bit_or a b < 256
or_below_8 = or_lt 8

pub xor_below_8 : (a b : ℕ) → a < 256 → b < 256 → bit_xor a b < 256
xor_below_8 = xor_lt 8

pub not_8 : (a p : ℕ) → a < 256 → p < 8 → digit (255 - a) p ≡ not (digit a p)
not_8 = digit-not w8

pub shl_low_8 : (w n p : ℕ) → p < n → p < 8 → digit (w * 2 ^ n % 256) p ≡ false
shl_low_8 = digit-shl_low 8

pub shl_high_8 : (w n p : ℕ) → n + p < 8 → digit (w * 2 ^ n % 256) (n + p) ≡ digit w p
shl_high_8 = digit-shl_high 8

pub shr_high_8 : (w n p : ℕ) → w < 256 → 8 ≤ n + p → digit (w / 2 ^ n) p ≡ false
shr_high_8 w n p small high = digit-shr w n p ∙ digit_above w 8 (n + p) small high

pub count_8 : (w : ℕ) → w < 256 → ones w ≡ count_below (digit w) 8
count_8 = ones-count_below 8

pub ruleset digits_8 = (digit_rules, or_below_8, xor_below_8, not_8, shl_low_8, shl_high_8, shr_high_8, count_8)

pub or_below_16 : (a b : ℕ) → a < 65536 → b < 65536 → bit_or a b < 65536
or_below_16 = or_lt 16

pub xor_below_16 : (a b : ℕ) → a < 65536 → b < 65536 → bit_xor a b < 65536
xor_below_16 = xor_lt 16

pub not_16 : (a p : ℕ) → a < 65536 → p < 16 → digit (65535 - a) p ≡ not (digit a p)
not_16 = digit-not w16

pub shl_low_16 : (w n p : ℕ) → p < n → p < 16 → digit (w * 2 ^ n % 65536) p ≡ false
shl_low_16 = digit-shl_low 16

pub shl_high_16 : (w n p : ℕ) → n + p < 16 → digit (w * 2 ^ n % 65536) (n + p) ≡ digit w p
shl_high_16 = digit-shl_high 16

pub shr_high_16 : (w n p : ℕ) → w < 65536 → 16 ≤ n + p → digit (w / 2 ^ n) p ≡ false
shr_high_16 w n p small high = digit-shr w n p ∙ digit_above w 16 (n + p) small high

pub count_16 : (w : ℕ) → w < 65536 → ones w ≡ count_below (digit w) 16
count_16 = ones-count_below 16

pub ruleset digits_16 = (digit_rules, or_below_16, xor_below_16, not_16, shl_low_16, shl_high_16, shr_high_16, count_16)

pub or_below_32 : (a b : ℕ) → a < 4294967296 → b < 4294967296 → bit_or a b < 4294967296
or_below_32 = or_lt 32

pub xor_below_32 : (a b : ℕ) → a < 4294967296 → b < 4294967296 → bit_xor a b < 4294967296
xor_below_32 = xor_lt 32

pub not_32 : (a p : ℕ) → a < 4294967296 → p < 32 → digit (4294967295 - a) p ≡ not (digit a p)
not_32 = digit-not w32

pub shl_low_32 : (w n p : ℕ) → p < n → p < 32 → digit (w * 2 ^ n % 4294967296) p ≡ false
shl_low_32 = digit-shl_low 32

pub shl_high_32 : (w n p : ℕ) → n + p < 32 → digit (w * 2 ^ n % 4294967296) (n + p) ≡ digit w p
shl_high_32 = digit-shl_high 32

pub shr_high_32 : (w n p : ℕ) → w < 4294967296 → 32 ≤ n + p → digit (w / 2 ^ n) p ≡ false
shr_high_32 w n p small high = digit-shr w n p ∙ digit_above w 32 (n + p) small high

pub count_32 : (w : ℕ) → w < 4294967296 → ones w ≡ count_below (digit w) 32
count_32 = ones-count_below 32

pub ruleset digits_32 = (digit_rules, or_below_32, xor_below_32, not_32, shl_low_32, shl_high_32, shr_high_32, count_32)

pub or_below_64 : (a b : ℕ) → a < 18446744073709551616 → b < 18446744073709551616 → bit_or a b < 18446744073709551616
or_below_64 = or_lt 64

pub xor_below_64 : (a b : ℕ) → a < 18446744073709551616 → b < 18446744073709551616 → bit_xor a b < 18446744073709551616
xor_below_64 = xor_lt 64

pub not_64 : (a p : ℕ) → a < 18446744073709551616 → p < 64 → digit (18446744073709551615 - a) p ≡ not (digit a p)
not_64 = digit-not w64

pub shl_low_64 : (w n p : ℕ) → p < n → p < 64 → digit (w * 2 ^ n % 18446744073709551616) p ≡ false
shl_low_64 = digit-shl_low 64

pub shl_high_64 : (w n p : ℕ) → n + p < 64 → digit (w * 2 ^ n % 18446744073709551616) (n + p) ≡ digit w p
shl_high_64 = digit-shl_high 64

pub shr_high_64 : (w n p : ℕ) → w < 18446744073709551616 → 64 ≤ n + p → digit (w / 2 ^ n) p ≡ false
shr_high_64 w n p small high = digit-shr w n p ∙ digit_above w 64 (n + p) small high

pub count_64 : (w : ℕ) → w < 18446744073709551616 → ones w ≡ count_below (digit w) 64
count_64 = ones-count_below 64

pub ruleset digits_64 = (digit_rules, or_below_64, xor_below_64, not_64, shl_low_64, shl_high_64, shr_high_64, count_64)

pub or_below_128 : (a b : ℕ) → a < 340282366920938463463374607431768211456 → b < 340282366920938463463374607431768211456 → bit_or a b < 340282366920938463463374607431768211456
or_below_128 = or_lt 128

pub xor_below_128 : (a b : ℕ) → a < 340282366920938463463374607431768211456 → b < 340282366920938463463374607431768211456 → bit_xor a b < 340282366920938463463374607431768211456
xor_below_128 = xor_lt 128

pub not_128 : (a p : ℕ) → a < 340282366920938463463374607431768211456 → p < 128 → digit (340282366920938463463374607431768211455 - a) p ≡ not (digit a p)
not_128 = digit-not w128

pub shl_low_128 : (w n p : ℕ) → p < n → p < 128 → digit (w * 2 ^ n % 340282366920938463463374607431768211456) p ≡ false
shl_low_128 = digit-shl_low 128

pub shl_high_128 : (w n p : ℕ) → n + p < 128 → digit (w * 2 ^ n % 340282366920938463463374607431768211456) (n + p) ≡ digit w p
shl_high_128 = digit-shl_high 128

pub shr_high_128 : (w n p : ℕ) → w < 340282366920938463463374607431768211456 → 128 ≤ n + p → digit (w / 2 ^ n) p ≡ false
shr_high_128 w n p small high = digit-shr w n p ∙ digit_above w 128 (n + p) small high

pub count_128 : (w : ℕ) → w < 340282366920938463463374607431768211456 → ones w ≡ count_below (digit w) 128
count_128 = ones-count_below 128

pub ruleset digits_128 = (digit_rules, or_below_128, xor_below_128, not_128, shl_low_128, shl_high_128, shr_high_128, count_128)
