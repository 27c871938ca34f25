-- Signed numbers as two's complements of a number of binary digits.
use Rattle.std.specs.Prelude.{ℕ, suc, ◌-◌, ◌*◌, ◌^◌, ◌<◌, ◌≤◌, ℤ, pos, negsuc, ◌-ℤ◌, unsigned_abs, if◌then◌else◌}
use Rattle.std.specs.Int.{int_rem_euclid}
use Rattle.bitvec.specs.Digit.{digit}

-- the signed number of a number of `len` digits: the number itself, less 2 ^ len where the highest of the digits is one
abbrev pub signed_of : ℕ → ℕ → ℤ
signed_of len n = if digit n (len - 1) then pos n -ℤ pos (2 ^ len) else pos n

-- the number of `len` digits of a signed number: the one below 2 ^ len that differs from it by a multiple of 2 ^ len
abbrev pub complement_of : ℕ → ℤ → ℕ
complement_of len z = unsigned_abs (int_rem_euclid z (pos (2 ^ len)))

-- A signed number has `len` digits: twice the number is below 2 ^ len, and not below -2 ^ len. `negsuc n` is -(n + 1).
abbrev pub FitsSignedDigits : ℕ → ℤ → Type 0
FitsSignedDigits len (pos n) = 2 * n < 2 ^ len
FitsSignedDigits len (negsuc n) = 2 * suc n ≤ 2 ^ len
