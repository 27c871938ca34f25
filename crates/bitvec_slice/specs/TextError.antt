-- Why a text is not the digits of some bits.
use Rattle.std.specs.Prelude.{◌≡◌, ℕ, ◌<◌, List, length, slice_index}
use Rattle.bitvec_slice.specs.SliceText.{IsDigit, AreDigits, not_a_digit_text, other_length_text}
use Rattle.bitvec_slice.specs.declared.slice.text.TextError.{TextError}
use Rattle.bitvec_slice.specs.declared.slice.text.TextError.TheVariants.{NotADigit, OtherLength}

-- a text is not the digits of `len` bits: its first character that is no digit is named, or else how many digits it has
abbrev pub IsRefusal : ℕ → List ℕ → TextError → Type 0
IsRefusal len text (NotADigit at) = (at < length text) × AreDigits text at × (¬ IsDigit (slice_index text at))
IsRefusal len text (OtherLength digits) = (digits ≡ length text) × (¬ (digits ≡ len)) × AreDigits text digits

-- that in words, for a reader
abbrev pub reason_text : TextError → List ℕ
reason_text (NotADigit at) = not_a_digit_text at
reason_text (OtherLength digits) = other_length_text digits
