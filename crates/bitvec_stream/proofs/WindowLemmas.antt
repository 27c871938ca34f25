-- Elements of a list that are kept in a word: how they are loaded, passed over and read.
use Rattle.std.proofs.Common.{◌≡◌, ℕ, ◌+◌, ◌-◌, ◌*◌, ◌^◌, ◌<◌, ◌≤◌, ◌||◌, Bool, true, false, List, length, take, drop, refl, sym, ap, ◌∙◌, inl, inr, arith, length-drop}
use Rattle.std.proofs.Math.Bool.{or-false}
use Rattle.std.proofs.lemmas.Bool.{cases_lt}
use Rattle.std.proofs.lemmas.List.{length-take-le, get_or-take, get_or-drop}
use Rattle.std.proofs.lemmas.Nat.{pow_pos}
use Rattle.bitvec.specs.Digit.{digit}
use Rattle.bitvec.specs.Ones.{IsHighestOne}
use Rattle.bitvec.specs.Span.{element}
use Rattle.bitvec.proofs.DigitLemmas.{digit_above}
use Rattle.bitvec.proofs.MemoryLemmas.{tabulate-from_elements}
use Rattle.bitvec_slice.proofs.FieldLemmas.{small_from_digits}
use Rattle.bitvec_stream.specs.Golomb.{BeginsWithCode}
use Rattle.bitvec_stream.specs.Numbers.{number_be, digits_be}
use Rattle.bitvec_stream.specs.Window.{IsWindow}
use Rattle.bitvec_stream.proofs.GolombLemmas.{code_found, code_of, number_be-first}
use Rattle.bitvec_slice.proofs.DigitListLemmas.{number_be-back}

-- the first n are passed over: the word's digits move up, and zeros come below them
pub window_moved : (bits : ℕ) (xs : List Bool) (place kept w n r : ℕ) → IsWindow bits xs place kept w → n ≤ kept → kept ≤ bits
    → ((p : ℕ) → p < n → digit r p ≡ false) → ((p : ℕ) → n + p < bits → digit r (n + p) ≡ digit w p) → IsWindow bits xs (place + n) (kept - n) r
window_moved bits xs place kept w n r is less most low moved = record {
  shown = λ j h.
      let up : bits - 1 - j ≡ n + (bits - 1 - (n + j)) = omega (arith, h, less, most) in
      let next : place + (n + j) ≡ place + n + j = omega arith in
      ap (digit r) up
      ∙ moved (bits - 1 - (n + j)) (omega (arith, h, less, most))
      ∙ is.shown (n + j) (omega (arith, h, less))
      ∙ ap (element xs) next;
  clean = λ p h. elim (cases_lt p n) [
    | inl below ↦ low p below
    | inr from ↦ (
        let up : p ≡ n + (p - n) = omega (arith, from) in
        ap (digit r) up ∙ moved (p - n) (omega (arith, h, from, less, most)) ∙ is.clean (p - n) (omega (arith, h, from, less)))
  ];
}

-- the elements that are kept, and behind them those of a whole word, moved down
pub window_joined : (bits : ℕ) (xs : List Bool) (place next kept w c s r : ℕ) → IsWindow bits xs place kept w → IsWindow bits xs next bits c → next ≡ place + kept → kept < bits
    → ((p : ℕ) → kept + p < bits → digit s p ≡ digit c (kept + p)) → ((p : ℕ) → p < bits → bits ≤ kept + p → digit s p ≡ false)
    → ((p : ℕ) → p < bits → digit r p ≡ (digit w p || digit s p)) → IsWindow bits xs place bits r
window_joined bits xs place next kept w c s r first second behind_is less moved high joined = record {
  shown = λ j h.
      joined (bits - 1 - j) (omega (arith, h))
      ∙ elim (cases_lt j kept) [
        | inl front ↦ (
            ap (λ b. digit w (bits - 1 - j) || b) (high (bits - 1 - j) (omega (arith, h)) (omega (arith, front, h)))
            ∙ or-false (digit w (bits - 1 - j))
            ∙ first.shown j front)
        | inr behind ↦ (
            let place_of : kept + (bits - 1 - j) ≡ bits - 1 - (j - kept) = omega (arith, behind, h) in
            let index : next + (j - kept) ≡ place + j = omega (arith, behind, behind_is) in
            ap (λ b. b || digit s (bits - 1 - j)) (first.clean (bits - 1 - j) (omega (arith, behind, h)))
            ∙ moved (bits - 1 - j) (omega (arith, behind, h, less))
            ∙ ap (digit c) place_of
            ∙ second.shown (j - kept) (omega (arith, h, behind))
            ∙ ap (element xs) index)
      ];
  clean = λ p h. absurd (omega (arith, h));
}

-- the number m of the first `count` elements: w without its lowest `down` digits
module _ (bits w count down m : ℕ) (room : down + count ≡ bits) (below : m < 2 ^ bits)
    (moved : (p : ℕ) → down + p < bits → digit m p ≡ digit w (down + p)) (high : (p : ℕ) → p < bits → bits ≤ down + p → digit m p ≡ false) where
  pub first_small : m < 2 ^ count
  first_small = small_from_digits m bits count below (λ p h. elim (cases_lt p bits) [
    | inl inside ↦ high p inside (omega (arith, h, room))
    | inr above ↦ digit_above m bits p below above
  ])

  pub first_number : (xs : List Bool) (place kept : ℕ) → IsWindow bits xs place kept w → count ≤ kept → place + kept ≤ length xs → m ≡ number_be (take count (drop place xs))
  first_number xs place kept is less long =
      let ys = take count (drop place xs) in
      let many : length ys ≡ count = length-take-le count (drop place xs) (omega (arith, less, long, length-drop place xs)) in
      let shown : ys ≡ digits_be count m = tabulate-from_elements ys count (λ j. digit m (count - 1 - j)) false many (λ j h.
      let up : bits - 1 - j ≡ down + (count - 1 - j) = omega (arith, h, room) in
      get_or-take count (drop place xs) j false h
      ∙ get_or-drop place xs j false
      ∙ sym (is.shown j (omega (arith, h, less)))
      ∙ ap (digit w) up
      ∙ sym (moved (count - 1 - j) (omega (arith, h, room)))) in
      sym (ap number_be shown ∙ number_be-back count m first_small)

-- w has its highest one below z zeros, and m is the number of its z + 1 digits from that one on: w without its lowest
-- `down` digits
pub record IsLined (bits w z down m : ℕ) : Type 0 where
  pub room : down + 2 * z + 1 ≡ bits
  pub top : IsHighestOne bits w (bits - 1 - z)
  pub below : m < 2 ^ bits
  pub digits : (q : ℕ) → down + q < bits → digit m q ≡ digit w (down + q)
  pub past : (q : ℕ) → q < bits → bits ≤ down + q → digit m q ≡ false

module _ (bits w z down m kept : ℕ) (is : IsLined bits w z down m) (fits : 2 * z + 1 ≤ kept) (xs : List Bool) (place : ℕ) (keeps : IsWindow bits xs place kept w) (long : place + kept ≤ length xs) where
  bit : (j : ℕ) → j < kept → element (drop place xs) j ≡ digit w (bits - 1 - j)
  bit j h = get_or-drop place xs j false ∙ sym (keeps.shown j h)

  abbrev digits : List Bool
  digits = take (z + 1) (drop z (drop place xs))

  left : kept ≤ length (drop place xs)
  left = omega (arith, long, length-drop place xs)

  many_digits : length digits ≡ z + 1
  many_digits = length-take-le (z + 1) (drop z (drop place xs)) (omega (arith, length-drop z (drop place xs), left, fits))

  few : m < 2 ^ (z + 1)
  few = small_from_digits m bits (z + 1) is.below (λ q h. elim (cases_lt (down + q) bits) [
    | inl inside ↦ is.digits q inside ∙ is.top.2 (down + q) (omega (arith, h, is.room)) inside
    | inr above ↦ elim (cases_lt q bits) [
      | inl less ↦ is.past q less above
      | inr more ↦ digit_above m bits q is.below more
    ]
  ])

  shown : digits ≡ digits_be (z + 1) m
  shown = tabulate-from_elements digits (z + 1) (λ j. digit m (z + 1 - 1 - j)) false many_digits (λ j h.
      let place_of : bits - 1 - (z + j) ≡ down + (z + 1 - 1 - j) = omega (arith, h, is.room) in
      get_or-take (z + 1) (drop z (drop place xs)) j false h ∙ get_or-drop z (drop place xs) j false
      ∙ bit (z + j) (omega (arith, h, fits))
      ∙ ap (digit w) place_of
      ∙ sym (is.digits (z + 1 - 1 - j) (omega (arith, h, is.room))))

  pub window_code : BeginsWithCode (drop place xs) m (2 * z + 1)
  window_code =
      let one : element (drop place xs) z ≡ true = bit z (omega (arith, fits)) ∙ is.top.1 in
      let zeros : (j : ℕ) → j < z → element (drop place xs) j ≡ false = λ j h. bit j (omega (arith, h, fits)) ∙ is.top.2 (bits - 1 - j) (omega (arith, h, is.room)) (omega (arith, h, is.room)) in
      let code = code_found (drop place xs) digits z one zeros (omega (arith, left, fits)) refl in
      let number : number_be digits ≡ m = ap number_be shown ∙ number_be-back (z + 1) m few in
      let first = number_be-first digits code.0 in
      let some : 0 < m = omega (arith, number, first.1, pow_pos (length digits - 1)) in
      let found = code_of (drop place xs) digits (m - 1) code (omega (arith, number, some)) in
      (found.0, some, found.1 ∙ omega (arith, many_digits))
