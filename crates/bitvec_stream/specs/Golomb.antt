-- Exp-Golomb codes: a number's code tells by its zeros how long it is.
use Rattle.std.specs.Prelude.{◌≡◌, ℕ, suc, ◌+◌, ◌-◌, ◌*◌, ◌<◌, ℤ, pos, negsuc, Bool, true, false, List, ◌++◌, length, take, replicate}
use Rattle.std.specs.Int.Digits.{digits_of}
use Rattle.bitvec.specs.Span.{element}
use Rattle.bitvec_slice.specs.Signed.{FitsSignedDigits}
use Rattle.bitvec_stream.specs.Numbers.{digits_be}

-- how many binary digits a number has, of which the highest is one; 0 has none
unfoldable pub digit_count : ℕ → ℕ
digit_count n = length (digits_of 2 n)

-- the code of number n: the digits of n + 1, highest first, and before them one zero fewer than there are digits
unfoldable pub golomb : ℕ → List Bool
golomb n = replicate (digit_count (n + 1) - 1) false ++ digits_be (digit_count (n + 1)) (n + 1)

-- a list begins with another
abbrev pub StartsWith : List Bool → List Bool → Type 0
StartsWith xs ys = take (length ys) xs ≡ ys

-- A list begins with a code that has these digits: the first is one, and one zero fewer than there are digits stands
-- before them.
abbrev pub IsCode : List Bool → List Bool → Type 0
IsCode xs digits = (element digits 0 ≡ true) × StartsWith xs (replicate (length digits - 1) false ++ digits)

-- a list begins with the code of one less than a number, and the code has `count` bits
abbrev pub BeginsWithCode : List Bool → ℕ → ℕ → Type 0
BeginsWithCode xs above count = StartsWith xs (golomb (above - 1)) × (0 < above) × (length (golomb (above - 1)) ≡ count)

-- The number whose code a signed number has. They go in the order 0, 1, -1, 2, -2 and so on: k has number 2 * k - 1, and
-- -k has number 2 * k. `negsuc n` is -(n + 1).
abbrev pub signed_place : ℤ → ℕ
signed_place (pos k) = 2 * k - 1
signed_place (negsuc n) = 2 * suc n

-- a number's code is that of a signed number that has more than `bits` digits
abbrev pub IsSignedLacking : ℕ → ℕ → Type 0
IsSignedLacking bits n = (z : ℤ) × (n ≡ signed_place z) × ¬ FitsSignedDigits bits z
