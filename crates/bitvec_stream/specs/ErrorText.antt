-- What the reasons of refusals are in words, for a reader.
use Rattle.std.specs.Prelude.{ℕ, List, codes}
use Rattle.bitvec_stream.specs.declared.error.ReadError.{ReadError}
use Rattle.bitvec_stream.specs.declared.error.ReadError.TheVariants.{TooFew, Unended, TooLarge}
use Rattle.bitvec_stream.specs.declared.error.WriteError.{WriteError}
use Rattle.bitvec_stream.specs.declared.error.WriteError.TheVariants.{NoRoom, TooManyDigits}

-- why nothing is read
abbrev pub read_error_text : ReadError → List ℕ
read_error_text TooFew = codes "fewer bits are left"
read_error_text Unended = codes "the bits end before the code"
read_error_text TooLarge = codes "the number is too large for its type"

-- why nothing is written
abbrev pub write_error_text : WriteError → List ℕ
write_error_text NoRoom = codes "there is room for fewer bits"
write_error_text TooManyDigits = codes "the number has more digits"
