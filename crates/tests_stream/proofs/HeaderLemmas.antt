-- The bits of a header's five numbers, one behind the other.
use Rattle.std.proofs.Common.{◌≡◌, ℕ, ◌+◌, ◌-◌, ◌*◌, ◌^◌, ◌<◌, ◌≤◌, ℤ, pos, negsuc, FitsSigned, Bool, true, false, List, [], ◌∷◌, ◌++◌, length, drop, refl, sym, ap, subst, ◌∙◌, arith, append_assoc, length-append, length-drop}
use Rattle.std.specs.Prelude.{Result, Ok, Err, IsOk}
use Rattle.std.specs.Int.{w16}
use Rattle.std.specs.Result.{IsErr}
use Rattle.std.specs.List.{All}
use Rattle.std.proofs.lemmas.List.{append-nil}
use Rattle.std.proofs.lemmas.List.Elements.{All-from_recursion}
use Rattle.bitvec_slice.specs.Signed.{complement_of, FitsSignedDigits}
use Rattle.bitvec_stream.specs.Golomb.{golomb, signed_place, StartsWith, IsSignedLacking}
use Rattle.bitvec_stream.specs.Items.{Way, highest_first, lowest_first, signed_highest_first, exp_golomb, signed_exp_golomb, IsBelow, CanBeWritten, AreRead, items_bits}
use Rattle.bitvec_stream.specs.Numbers.{digits_le, digits_be}
use Rattle.bitvec_stream.specs.Refusals.{IsCodeRefusal}
use Rattle.bitvec_stream.specs.declared.error.ReadError.{ReadError}
use Rattle.bitvec_stream.specs.declared.error.ReadError.TheVariants.{TooFew, Unended, TooLarge}
use Rattle.bitvec_stream.proofs.GolombLemmas.{one_code}
use Rattle.bitvec_stream.proofs.ItemLemmas.{written_is_read, are_written}
use Rattle.bitvec_stream.proofs.SignedGolombLemmas.{one_signed}
use Rattle.bitvec_slice.proofs.DigitListLemmas.{digits_le-low, digits_be-low}
use Rattle.tests_stream.specs.Header.{header_items, header_ways, header_values, HasItsTypes, CanBePut}
use Rattle.tests_stream.specs.declared.header.Header.{Header}

five : (w a b c d e : List Bool) → ((((w ++ a) ++ b) ++ c) ++ d) ++ e ≡ w ++ (a ++ (b ++ (c ++ (d ++ (e ++ [])))))
five w a b c d e = simp (append_assoc, append-nil)

module _ (v k l : ℕ) (o d : ℤ) where
  abbrev items : List (Way × ℤ)
  items = (highest_first 4, pos v) ∷ (lowest_first 12, pos k) ∷ (signed_highest_first 6, o) ∷ (exp_golomb, pos l) ∷ (signed_exp_golomb, d) ∷ []

  -- five writes, one behind the other
  pub items_joined : (w1 w2 w3 w4 w5 w6 : List Bool) → w2 ≡ w1 ++ digits_be 4 v → w3 ≡ w2 ++ digits_le 12 k → w4 ≡ w3 ++ digits_be 6 (complement_of 6 o) → w5 ≡ w4 ++ golomb l → w6 ≡ w5 ++ golomb (signed_place d)
      → w6 ≡ w1 ++ items_bits items
  items_joined w1 w2 w3 w4 w5 w6 a b c e f =
      let first = a ∙ ap (λ us. w1 ++ us) (digits_be-low 4 v (complement_of 4 (pos v)) refl) in
      let second = b ∙ ap (λ us. us ++ digits_le 12 k) first ∙ ap (λ us. w1 ++ digits_be 4 (complement_of 4 (pos v)) ++ us) (digits_le-low 12 k (complement_of 12 (pos k)) refl) in
      let third = c ∙ ap (λ us. us ++ digits_be 6 (complement_of 6 o)) second in
      let fourth = e ∙ ap (λ us. us ++ golomb l) third in
      let fifth = f ∙ ap (λ us. us ++ golomb (signed_place d)) fourth in
      fifth ∙ five w1 (digits_be 4 (complement_of 4 (pos v))) (digits_le 12 (complement_of 12 (pos k))) (digits_be 6 (complement_of 6 o)) (golomb l) (golomb (signed_place d))

  -- each can be written
  pub items_can : IsBelow (2 ^ 4) (pos v) → IsBelow (2 ^ 12) (pos k) → FitsSignedDigits 6 o → All (λ it. CanBeWritten it.0 it.1) items
  items_can a b c = All-from_recursion (λ it. CanBeWritten it.0 it.1) items (a, (b, (c, (tt, (tt, tt)))))

  total : length (items_bits items) ≡ 22 + (length (golomb l) + length (golomb (signed_place d)))
  total = omega (arith, length-append (golomb l) (golomb (signed_place d) ++ []), length-append (golomb (signed_place d)) [])

  -- that they can, and have room, number by number
  pub parts_put : (room : ℕ) → CanBePut room items → IsBelow (2 ^ 4) (pos v) × IsBelow (2 ^ 12) (pos k) × FitsSignedDigits 6 o × (22 + (length (golomb l) + length (golomb (signed_place d))) ≤ room)
  parts_put room put = (put.0 0 (highest_first 4, pos v) (omega arith), put.0 1 (highest_first 4, pos v) (omega arith), put.0 2 (highest_first 4, pos v) (omega arith), subst (λ n. n ≤ room) total put.1)

  pub put_parts : (room : ℕ) → IsBelow (2 ^ 4) (pos v) → IsBelow (2 ^ 12) (pos k) → FitsSignedDigits 6 o → 22 + (length (golomb l) + length (golomb (signed_place d))) ≤ room → CanBePut room items
  put_parts room a b c h = (items_can a b c, subst (λ n. n ≤ room) (sym total) h)

-- the room that a write leaves
pub room_left : (xs ys bs : List Bool) → ys ≡ drop (length bs) xs → length ys ≡ length xs - length bs
room_left xs ys bs e = ap length e ∙ length-drop (length bs) xs

pub none_true : false ≡ true → ⊥
none_true e = absurd (cc)

-- a number of 16 digits has them
pub fits_digits : (z : ℤ) → FitsSigned w16 z → FitsSignedDigits 16 z
fits_digits (pos n) h = omega (arith, h)
fits_digits (negsuc n) h = omega (arith, h)

-- an error is no value
pub err_not_ok : {T E : Type 0} (r : Result T E) → IsErr r → IsOk r → ⊥
err_not_ok (Ok v) e o = absurd (cc)
err_not_ok (Err x) e o = absurd (cc)

-- where no code of a type is read, the bits do not begin with that of a number of the type
no_code : (xs : List Bool) (error : ReadError) (n : ℕ) (IsLacking : ℕ → Type 0) → (IsLacking n → ⊥) → IsCodeRefusal IsLacking xs error → StartsWith xs (golomb n) → ⊥
no_code xs Unended n IsLacking has refusal code = refusal n code
no_code xs TooLarge n IsLacking has refusal code = has (subst IsLacking (one_code xs refusal.0 n refusal.2 code) refusal.1)
no_code xs TooFew n IsLacking has refusal code = absurd refusal

-- no header stands where its fourth number, or its fifth, is not read
module _ (xs zs : List Bool) (behind : zs ≡ drop 6 (drop 12 (drop 4 xs))) (error : ReadError) (it : Header) (left : List Bool) (types : HasItsTypes it) (read : AreRead header_ways xs (header_values it) left) where
  there : read.2.2.0 ≡ zs
  there = read.2.2.1.1.1 ∙ ap (λ us. drop 6 us) (read.2.1.1.1 ∙ ap (λ us. drop 12 us) read.1.1.1) ∙ sym behind

  code : StartsWith zs (golomb it.length)
  code = subst (λ us. StartsWith us (golomb it.length)) there read.2.2.2.1.1.0

  pub none_length : IsCodeRefusal (λ n. 2 ^ 32 ≤ n) zs error → ⊥
  none_length refusal = let below = types.0 in no_code zs error it.length (λ n. 2 ^ 32 ≤ n) (λ h. absurd (omega (arith, below, h))) refusal code

  pub none_drift : (ys : List Bool) (v : ℕ) → StartsWith zs (golomb v) → ys ≡ drop (length (golomb v)) zs → IsCodeRefusal (IsSignedLacking 16) ys error → ⊥
  none_drift ys v starts is refusal =
      let same : it.length ≡ v = one_code zs it.length v code starts in
      let last : read.2.2.2.0 ≡ ys = read.2.2.2.1.1.1 ∙ ap (λ us. drop (length (golomb it.length)) us) there ∙ ap (λ k. drop (length (golomb k)) zs) same ∙ sym is in
      let drift = subst (λ us. StartsWith us (golomb (signed_place it.drift))) last read.2.2.2.2.1.0 in
      no_code ys error (signed_place it.drift) (IsSignedLacking 16) (λ lacks. lacks.2 (subst (FitsSignedDigits 16) (one_signed it.drift lacks.0 lacks.1) types.1)) refusal drift

-- a header is known by its numbers
pub same_header : (a b : Header) → header_values a ≡ header_values b → a ≡ b
same_header a b e =
    let version : a.version ≡ b.version = cc in
    let kind : a.kind ≡ b.kind = cc in
    let offset : a.offset ≡ b.offset = cc in
    let length : a.length ≡ b.length = cc in
    let drift : a.drift ≡ b.drift = cc in
    λ i. record { version = version i; kind = kind i; offset = offset i; length = length i; drift = drift i }

-- what is read of a header that was written behind no bits
pub header_back : (header back : Header) (front xs ys left : List Bool) → front ≡ [] → xs ≡ front ++ items_bits (header_items header) → ys ≡ xs → All (λ it. CanBeWritten it.0 it.1) (header_items header)
    → AreRead header_ways ys (header_values back) left → back ≡ header
header_back header back front xs ys left none is same can read =
    let all : ys ≡ items_bits (header_items header) ++ [] = same ∙ is ∙ ap (λ us. us ++ items_bits (header_items header)) none ∙ sym (append-nil (items_bits (header_items header))) in
    let shown = subst (λ us. AreRead header_ways us (header_values back) left) all read in
    same_header back header ((written_is_read (header_items header) [] (header_values back) left can).0 shown).0

-- a header that was written behind no bits is read
pub header_there : (header : Header) (front xs ys : List Bool) → front ≡ [] → xs ≡ front ++ items_bits (header_items header) → ys ≡ xs → All (λ it. CanBeWritten it.0 it.1) (header_items header)
    → AreRead header_ways ys (header_values header) []
header_there header front xs ys none is same can =
    let all : ys ≡ items_bits (header_items header) ++ [] = same ∙ is ∙ ap (λ us. us ++ items_bits (header_items header)) none ∙ sym (append-nil (items_bits (header_items header))) in
    subst (λ us. AreRead header_ways us (header_values header) []) (sym all) (are_written (header_items header) [] can)
