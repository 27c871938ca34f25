-- Why there is no span, as text.
use Rattle.std.specs.Prelude.{ℕ, suc, ℤ, pos, negsuc, List, ◌++◌, codes}
use Rattle.bitvec_order.specs.Text.{decimal_text}
use Rattle.bitvec_span.specs.Span.{region_max_bits}

-- a number in decimal, after a minus sign where it is negative
abbrev pub signed_text : ℤ → List ℕ
signed_text (pos n) = decimal_text n
signed_text (negsuc n) = codes "-" ++ decimal_text (suc n)

-- that a length passes the greatest
abbrev pub too_long_text : ℕ → List ℕ
too_long_text bits = codes "Length " ++ (decimal_text bits ++ (codes " is too long to encode in a bit-slice, which can only accept " ++ (decimal_text region_max_bits ++ codes " bits")))

-- that a span from this word passes the greatest word
abbrev pub too_high_text : ℤ → List ℕ
too_high_text word = codes "Word index " ++ (signed_text word ++ codes " is too high, and produces a span that passes the greatest word index.")

-- the type and the register of an error, before its case
abbrev pub error_name : List ℕ → List ℕ
error_name register = codes "BitSpanError<" ++ (register ++ codes ">::")

-- the two cases with their numbers
abbrev pub too_long_case : ℕ → List ℕ
too_long_case bits = codes "TooLong(" ++ (decimal_text bits ++ codes ")")

abbrev pub too_high_case : ℤ → List ℕ
too_high_case word = codes "TooHigh(" ++ (signed_text word ++ codes ")")
