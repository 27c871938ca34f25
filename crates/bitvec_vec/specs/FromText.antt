-- Why a text is not read as a vector.
use Rattle.std.specs.Prelude.{ℕ, ◌<◌, List, codes, length, slice_index}
use Rattle.bitvec_slice.specs.SliceText.{IsDigit, AreDigits, not_a_digit_text}
use Rattle.bitvec_vec.specs.declared.vec.text.FromTextError.{FromTextError}
use Rattle.bitvec_vec.specs.declared.vec.text.FromTextError.TheVariants.{NotADigit, NoMemory}

-- the character that is named is the first of a text that is neither a zero nor a one; where memory is refused, there are characters, and all are zeros and ones
abbrev pub IsTextRefusal : List ℕ → FromTextError → Type 0
IsTextRefusal text (NotADigit at) = (at < length text) × AreDigits text at × (¬ IsDigit (slice_index text at))
IsTextRefusal text NoMemory = (0 < length text) × AreDigits text (length text)

-- that in words, for a reader
abbrev pub unread_text : FromTextError → List ℕ
unread_text (NotADigit at) = not_a_digit_text at
unread_text NoMemory = codes "there is no memory"
