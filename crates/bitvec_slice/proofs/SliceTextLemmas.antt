-- Digits of truth values as texts.
use Rattle.std.proofs.Common.{◌≡◌, ℕ, Bool, true, false, List, [], ◌∷◌, ◌==◌, ◌<◌, inl, inr, length, refl, sym, subst, arith, add-one, ◌+◌}
use Rattle.std.specs.declared.fmt.Error.{Error}
use Rattle.std.specs.declared.fmt.Formatter.{Formatter}
use Rattle.std.specs.Prelude.{Result, slice_index}
use Rattle.std.specs.Fmt.{HasWrittenStyled, WritesStyledOnOk, WritesOnOk, IsDefaultSpec}
use Rattle.bitvec.specs.Numeral.{numeral}
use Rattle.bitvec.specs.Span.{element}
use Rattle.std.proofs.lemmas.List.{length-map, get_or-map}
use Rattle.bitvec_slice.specs.SliceText.{digit_text, digit_value, digits_text, text_bits, IsDigit, AreDigits}

-- what is written whatever the options are is also written where there are none
module _ {W : Type 0} (took : W → List ℕ → W → Type 0) where
  pub plain_from_styled : (f : Formatter W) (r : Result (Unit {0}) Error) (bs : List ℕ) (g : Formatter W) → WritesStyledOnOk took f r bs g → WritesOnOk took f r bs g
  plain_from_styled f r bs g h = λ plain ok.
      let written : HasWrittenStyled took f bs g = h plain.flush ok in
      record {
        wrote = written.wrote;
        plain = record { bare = subst IsDefaultSpec (sym written.spec) plain.bare; flush = written.flush };
      }

-- the number 1 or 0 has one digit
pub numeral_digit : (bit : Bool) → numeral 10 false 1 (digit_value bit) ≡ digit_text bit ∷ []
unfolding numeral
numeral_digit true = refl
numeral_digit false = refl

-- the digits of a text's truth values are its characters, where all are digits
pub digits_back : (text : List ℕ) → AreDigits text (length text) → digits_text (text_bits text) ≡ text
digits_back [] all = refl
digits_back (c ∷ rest) all =
    let first : digit_text (c == 49) ≡ c = one c (all 0 (omega arith)) in
    (λ m. first m ∷ digits_back rest (λ k h. subst IsDigit (next k) (all (k + 1) (omega (arith, h)))) m)
  where
    one : (c : ℕ) → IsDigit c → digit_text (c == 49) ≡ c
    one c (inl e) = rw e refl
    one c (inr e) = rw e refl

    next : (k : ℕ) → slice_index (c ∷ rest) (k + 1) ≡ slice_index rest k
    next k = rw add-one refl

pub length-text_bits : (text : List ℕ) → length (text_bits text) ≡ length text
length-text_bits text = length-map text (λ c. c == 49)

-- element i of a text's truth values is of its character i
pub text_bit : (text : List ℕ) (i : ℕ) → i < length text → element (text_bits text) i ≡ (slice_index text i == 49)
text_bit text i h = get_or-map (λ c. c == 49) text i 0 false h
