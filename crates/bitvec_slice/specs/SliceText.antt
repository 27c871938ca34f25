-- Lists of truth values as texts: a `1`, code 49, or a `0`, code 48, for each.
use Rattle.std.specs.Prelude.{◌≡◌, ◌⊎◌, ℕ, ◌<◌, ◌==◌, Bool, false, List, ◌++◌, codes, map, slice_index, if◌then◌else◌}
use Rattle.bitvec.specs.ItemText.{list_text}
use Rattle.bitvec.specs.Text.{decimal_text}

-- the digit of a truth value
abbrev pub digit_text : Bool → ℕ
digit_text bit = if bit then 49 else 48

-- the digits of a list, one after the other
abbrev pub digits_text : List Bool → List ℕ
digits_text xs = map digit_text xs

-- the number of a truth value
abbrev pub digit_value : Bool → ℕ
digit_value bit = if bit then 1 else 0

-- a list as one of the numbers 1 and 0, in square brackets and with a comma and a space between them
abbrev pub truths_text : List Bool → List ℕ
truths_text xs = list_text 10 false (map digit_value xs)

-- a truth value for each of a text's characters: true where it is `1`
abbrev pub text_bits : List ℕ → List Bool
text_bits text = map (λ c. c == 49) text

-- a character is a zero or a one
abbrev pub IsDigit : ℕ → Type 0
IsDigit c = (c ≡ 48) ⊎ (c ≡ 49)

-- the characters of a text before number n are zeros and ones
abbrev pub AreDigits : List ℕ → ℕ → Type 0
AreDigits text n = (k : ℕ) → k < n → IsDigit (slice_index text k)

-- that the character at a place is no digit, and that the number of digits is another than that of the bits, in words
abbrev pub not_a_digit_text : ℕ → List ℕ
not_a_digit_text at = codes "character " ++ (decimal_text at ++ codes " is neither 0 nor 1")

abbrev pub other_length_text : ℕ → List ℕ
other_length_text digits = decimal_text digits ++ codes " digits for another number of bits"
