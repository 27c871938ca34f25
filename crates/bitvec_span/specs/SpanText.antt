-- The text of each refusal of a span.
use Rattle.std.specs.Prelude.{ℕ, List, ◌++◌}
use Rattle.bitvec_span.specs.declared.ptr.span.error.BitSpanError.{BitSpanError}
use Rattle.bitvec_span.specs.declared.ptr.span.error.BitSpanError.TheVariants.{TooLong, TooHigh}
use Rattle.bitvec_span.specs.Refusals.{too_long_text, too_high_text, error_name, too_long_case, too_high_case}

-- for a reader
abbrev pub refusal_text : {R : Type 0} → BitSpanError R → List ℕ
refusal_text (TooLong bits) = too_long_text bits
refusal_text (TooHigh word _) = too_high_text word

-- the case of an error with its number
abbrev pub case_text : {R : Type 0} → BitSpanError R → List ℕ
case_text (TooLong bits) = too_long_case bits
case_text (TooHigh word _) = too_high_case word

-- for a programmer: the same, after the names of the type and of a register
abbrev pub refusal_debug_text : {R : Type 0} → List ℕ → BitSpanError R → List ℕ
refusal_debug_text register error = error_name register ++ case_text error
