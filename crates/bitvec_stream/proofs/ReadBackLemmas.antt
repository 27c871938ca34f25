-- What is read of bits that begin with a number that was written: the number, and what stands behind it is left.
use Rattle.std.proofs.Common.{◌≡◌, ◌↔◌, ℕ, ◌+◌, ◌-◌, ◌<◌, ℤ, Bool, true, false, not, List, [], ◌∷◌, ◌++◌, length, get_or, take, drop, replicate, refl, sym, ap, subst, ◌∙◌, inl, inr, arith, length-append}
use Rattle.std.specs.Prelude.{Result, Ok, Err, IsOk, MatchResult}
use Rattle.std.proofs.lemmas.Bool.{cases_order}
use Rattle.std.proofs.lemmas.List.{take_at, drop_at, length-replicate, get_or-replicate, get_or_append_left, get_or-append_right, append-nil}
use Rattle.bitvec.specs.Span.{element}
use Rattle.bitvec.specs.Truths.{AllAre}
use Rattle.bitvec_slice.specs.Bits.{BeginsWith}
use Rattle.bitvec_slice.specs.Signed.{signed_of, complement_of, FitsSignedDigits}
use Rattle.bitvec_slice.proofs.DigitListLemmas.{length-digits_le, length-digits_be}
use Rattle.bitvec_slice.proofs.SignedLemmas.{signed_back}
use Rattle.bitvec_stream.specs.Golomb.{golomb, signed_place, StartsWith, IsSignedLacking}
use Rattle.bitvec_stream.specs.Numbers.{number_le, number_be, digits_le, digits_be}
use Rattle.bitvec_stream.specs.Refusals.{IsCodeRefusal}
use Rattle.bitvec_stream.specs.declared.error.ReadError.{ReadError}
use Rattle.bitvec_stream.specs.declared.error.ReadError.TheVariants.{TooFew, Unended, TooLarge}
use Rattle.bitvec_stream.proofs.GolombLemmas.{one_code}
use Rattle.bitvec_stream.proofs.ItemLemmas.{complement-below, be_read, le_read}
use Rattle.bitvec_stream.proofs.SignedGolombLemmas.{one_signed}

-- a signed number in `count` bits, the first the highest digit, or the lowest
module _ (count : ℕ) (z : ℤ) (behind : List Bool) (has : FitsSignedDigits count z) where
  pub signed_be_read : (signed_of count (number_be (take count (digits_be count (complement_of count z) ++ behind))) ≡ z)
      × (drop count (digits_be count (complement_of count z) ++ behind) ≡ behind)
  signed_be_read =
      let it = be_read count (complement_of count z) behind (complement-below count z) in
      (ap (signed_of count) it.0 ∙ signed_back count z has, it.1)

  pub signed_le_read : (signed_of count (number_le (take count (digits_le count (complement_of count z) ++ behind))) ≡ z)
      × (drop count (digits_le count (complement_of count z) ++ behind) ≡ behind)
  signed_le_read =
      let it = le_read count (complement_of count z) behind (complement-below count z) in
      (ap (signed_of count) it.0 ∙ signed_back count z has, it.1)

-- no truth value is its own opposite
own_opposite : (b : Bool) → b ≡ not b → ⊥
own_opposite true e = cc
own_opposite false e = cc

-- a number in unary: the bits begin with it and with no other, they are not all the same, and there is one bit more
module _ (n : ℕ) (bit : Bool) (behind : List Bool) where
  abbrev bits : List Bool
  bits = (replicate n bit ++ (not bit ∷ [])) ++ behind

  long : length bits ≡ n + 1 + length behind
  long = omega (arith, length-append (replicate n bit ++ (not bit ∷ [])) behind, length-append (replicate n bit) (not bit ∷ []), length-replicate n bit)

  short : length (replicate n bit ++ (not bit ∷ [])) ≡ n + 1
  short = omega (arith, length-append (replicate n bit) (not bit ∷ []), length-replicate n bit)

  before : (j : ℕ) → j < n → element bits j ≡ bit
  before j h =
      get_or_append_left (replicate n bit ++ (not bit ∷ [])) behind false j (omega (arith, h, short))
      ∙ get_or_append_left (replicate n bit) (not bit ∷ []) false j (omega (arith, h, length-replicate n bit))
      ∙ get_or-replicate n j bit false h

  there : element bits n ≡ not bit
  there =
      let none : n - n ≡ 0 = omega arith in
      get_or_append_left (replicate n bit ++ (not bit ∷ [])) behind false n (omega (arith, short))
      ∙ get_or-append_right (replicate n bit) (not bit ∷ []) n n false (length-replicate n bit) (omega arith)
      ∙ ap (λ k. get_or (not bit ∷ []) k false) none

  only : (m : ℕ) → BeginsWith bit bits m → m ≡ n
  only m begins = elim (cases_order m n) [
    | inl same ↦ same
    | inr (inl less) ↦ absurd (own_opposite bit (sym (before m less) ∙ begins.2 (omega (arith, less, long))))
    | inr (inr more) ↦ absurd (own_opposite bit (sym (begins.1 n more) ∙ there))
  ]

  begins : BeginsWith bit bits n
  begins = (omega (arith, long), before, λ h. there)

  pub unary_read : ((m : ℕ) → BeginsWith bit bits m ↔ (m ≡ n)) × ¬ AllAre bit bits × (drop (n + 1) bits ≡ behind)
  unary_read = (
    λ m. (only m, λ same. subst (BeginsWith bit bits) (sym same) begins),
    λ all. own_opposite bit (sym (all n (omega (arith, long))) ∙ there),
    drop_at (replicate n bit ++ (not bit ∷ [])) behind (n + 1) short,
  )

-- An Exp-Golomb code: the bits begin with it and with no other, and no number is read only where this one is lacking.
code_starts : (n : ℕ) (behind : List Bool) → StartsWith (golomb n ++ behind) (golomb n)
code_starts n behind = take_at (golomb n) behind (length (golomb n)) refl

code_lacks : (n : ℕ) (behind : List Bool) (IsLacking : ℕ → Type 0) (error : ReadError) → IsCodeRefusal IsLacking (golomb n ++ behind) error → IsLacking n
code_lacks n behind IsLacking TooFew refusal = absurd refusal
code_lacks n behind IsLacking Unended refusal = absurd (refusal n (code_starts n behind))
code_lacks n behind IsLacking TooLarge refusal =
    subst IsLacking (one_code (golomb n ++ behind) refusal.0 n refusal.2 (code_starts n behind)) refusal.1

module _ (n : ℕ) (behind : List Bool) where
  pub golomb_read : ((m : ℕ) → StartsWith (golomb n ++ behind) (golomb m) ↔ (m ≡ n))
      × ((IsLacking : ℕ → Type 0) (error : ReadError) → IsCodeRefusal IsLacking (golomb n ++ behind) error → IsLacking n)
      × (drop (length (golomb n)) (golomb n ++ behind) ≡ behind)
  golomb_read = (
    λ m. (
      λ starts. one_code (golomb n ++ behind) m n starts (code_starts n behind),
      λ same. subst (λ k. StartsWith (golomb n ++ behind) (golomb k)) (sym same) (code_starts n behind),
    ),
    λ IsLacking error refusal. code_lacks n behind IsLacking error refusal,
    drop_at (golomb n) behind (length (golomb n)) refl,
  )

-- the same of a signed number
module _ (z : ℤ) (behind : List Bool) where
  abbrev signed_bits : List Bool
  signed_bits = golomb (signed_place z) ++ behind

  signed_only : (y : ℤ) → StartsWith signed_bits (golomb (signed_place y)) → y ≡ z
  signed_only y starts = one_signed y z (one_code signed_bits (signed_place y) (signed_place z) starts (code_starts (signed_place z) behind))

  signed_lacks : (bits : ℕ) (error : ReadError) → IsCodeRefusal (IsSignedLacking bits) signed_bits error → ¬ FitsSignedDigits bits z
  signed_lacks bits error refusal has =
      let lacks = code_lacks (signed_place z) behind (IsSignedLacking bits) error refusal in
      lacks.2 (subst (FitsSignedDigits bits) (one_signed z lacks.0 lacks.1) has)

  pub signed_golomb_read : ((y : ℤ) → StartsWith signed_bits (golomb (signed_place y)) ↔ (y ≡ z))
      × ((bits : ℕ) (error : ReadError) → IsCodeRefusal (IsSignedLacking bits) signed_bits error → ¬ FitsSignedDigits bits z)
      × (drop (length (golomb (signed_place z))) signed_bits ≡ behind)
  signed_golomb_read = (
    λ y. (
      signed_only y,
      λ same. subst (λ k. StartsWith signed_bits (golomb (signed_place k))) (sym same) (code_starts (signed_place z) behind),
    ),
    signed_lacks,
    drop_at (golomb (signed_place z)) behind (length (golomb (signed_place z))) refl,
  )

-- A code is read where the number is not lacking, so also where it is written and read in one type.
pub golomb_is_read : {T : Type 0} (Is : T → Type 0) (IsLacking : ℕ → Type 0) (n : ℕ) (xs behind : List Bool) (result : Result T ReadError)
    → ¬ IsLacking n → xs ≡ golomb n ++ behind → MatchResult result Is (IsCodeRefusal IsLacking xs) → IsOk result
golomb_is_read Is IsLacking n xs behind (Ok value) has is read = refl
golomb_is_read Is IsLacking n xs behind (Err error) has is refusal =
    absurd (has (code_lacks n behind IsLacking error (subst (λ us. IsCodeRefusal IsLacking us error) is refusal)))

pub signed_golomb_is_read : {T : Type 0} (Is : T → Type 0) (bits : ℕ) (z : ℤ) (xs behind : List Bool) (result : Result T ReadError)
    → FitsSignedDigits bits z → xs ≡ golomb (signed_place z) ++ behind → MatchResult result Is (IsCodeRefusal (IsSignedLacking bits) xs) → IsOk result
signed_golomb_is_read Is bits z xs behind (Ok value) has is read = refl
signed_golomb_is_read Is bits z xs behind (Err error) has is refusal =
    absurd (signed_lacks z behind bits error (subst (λ us. IsCodeRefusal (IsSignedLacking bits) us error) is refusal) has)

-- What a search reads: what a writer wrote from its first bit on, with nothing behind it ..
pub from_first : (bits xs : List Bool) (n : ℕ) → n ≡ 0 → take n bits ++ xs ≡ xs ++ []
from_first bits xs n none = ap (λ m. take m bits ++ xs) none ∙ sym (append-nil xs)

-- .. and the bits of a number in unary, one by one.
pub unary_bits : (n : ℕ) (bit : Bool) (behind : List Bool) → let bits = (replicate n bit ++ (not bit ∷ [])) ++ behind in
    (length bits ≡ n + 1 + length behind) × (element bits n ≡ not bit) × ((j : ℕ) → j < n → element bits j ≡ bit) × ¬ (bit ≡ not bit)
unary_bits n bit behind = (long n bit behind, there n bit behind, before n bit behind, own_opposite bit)

-- What a search takes for what is read back: `#[tactic(auto, using(bitvec_stream::proofs::ReadBackLemmas::read_back))]`.
pub ruleset read_back = (from_first, be_read, le_read, signed_be_read, signed_le_read, unary_bits, golomb_read, length-digits_be, length-digits_le, length-append)
