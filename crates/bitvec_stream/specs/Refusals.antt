-- Why a code is not read.
use Rattle.std.specs.Prelude.{ℕ, Bool, List}
use Rattle.bitvec_stream.specs.Golomb.{StartsWith, golomb}
use Rattle.bitvec_stream.specs.declared.error.ReadError.{ReadError}
use Rattle.bitvec_stream.specs.declared.error.ReadError.TheVariants.{TooFew, Unended, TooLarge}

-- No number is read from a list: it begins with no number's code, or with that of a number that is lacking.
abbrev pub IsCodeRefusal : (ℕ → Type 0) → List Bool → ReadError → Type 0
IsCodeRefusal IsLacking xs Unended = (n : ℕ) → ¬ StartsWith xs (golomb n)
IsCodeRefusal IsLacking xs TooLarge = (n : ℕ) × IsLacking n × StartsWith xs (golomb n)
IsCodeRefusal IsLacking xs TooFew = ⊥
