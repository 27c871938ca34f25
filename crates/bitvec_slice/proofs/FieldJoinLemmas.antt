-- Numbers of lists that lie in one word, in two, or in four bytes, by the words joined. `bits` is the width of a word.
use Rattle.std.proofs.Common.{◌≡◌, ℕ, ◌+◌, ◌-◌, ◌*◌, ◌/◌, ◌%◌, ◌^◌, ◌<◌, ◌≤◌, ◌&&◌, ◌||◌, Bool, true, false, not, nat_lt, List, length, refl, sym, ap, ◌∙◌, inl, inr, arith}
use Rattle.std.proofs.Math.Bool.{or-false}
use Rattle.std.proofs.lemmas.Bool.{cases_lt, lt-ltb, le-ltb}
use Rattle.std.proofs.lemmas.Nat.{div-mul-add, mod-mul-add}
use Rattle.bitvec.specs.Digit.{digit}
use Rattle.bitvec.specs.Order.{number_of}
use Rattle.bitvec.specs.Span.{element}
use Rattle.bitvec.proofs.DigitLemmas.{digit_above}
use Rattle.bitvec.proofs.IndexLemmas.{number_of-from_digits}
use Rattle.bitvec_slice.specs.Field.{IsSequential, position_of, digit_place, field_number}
use Rattle.bitvec_slice.specs.Words.{merged_digit}
use Rattle.bitvec_slice.proofs.FieldLemmas.{small_from_digits, digit_places}

-- a digit of a word moved down joined with one moved up
pub digit-merged : (bits by p low high down up : ℕ) → by < bits → p < bits
    → (by + p < bits → digit down p ≡ digit low (by + p)) → (bits ≤ by + p → digit down p ≡ false)
    → (p < bits - by → digit up p ≡ false) → ((q : ℕ) → bits - by + q < bits → digit up (bits - by + q) ≡ digit high q)
    → (digit down p || digit up p) ≡ merged_digit bits by low high p
digit-merged bits by p low high down up most small moved none low_none high_moved =
    elim (cases_lt (by + p) bits) [
      | inl less ↦ (rw (lt-ltb (by + p) bits less, moved less, low_none (omega arith)) (or-false (digit low (by + p))))
      | inr more ↦ (
          let place : bits - by + (by + p - bits) ≡ p = omega arith in
          let lifted : digit up p ≡ digit high (by + p - bits) = ap (digit up) (sym place) ∙ high_moved (by + p - bits) (omega arith) in
          rw (le-ltb (by + p) bits more, none more, lifted) refl)
    ]

-- word k has elements of a list: each at its index's position
abbrev pub HasElements : ℕ → ℕ → ℕ → (ℕ → ℕ) → (ℕ → Bool) → ℕ → ℕ → Type 0
HasElements bits head len at bit k w = (j : ℕ) → j < len → (head + j) / bits ≡ k → digit w (at ((head + j) % bits)) ≡ bit j

module _ (bits head len : ℕ) (at : ℕ → ℕ) (bit : ℕ → Bool) where
  in_first : (w : ℕ) → HasElements bits head len at bit 0 w → (j : ℕ) → j < len → head + j < bits → digit w (at (head + j)) ≡ bit j
  in_first w has j h small =
      let e : head + j ≡ 0 * bits + (head + j) = omega arith in
      let word : (head + j) / bits ≡ 0 = ap (λ n. n / bits) e ∙ div-mul-add 0 bits (head + j) small in
      let index : (head + j) % bits ≡ head + j = ap (λ n. n % bits) e ∙ mod-mul-add 0 bits (head + j) small in
      ap (λ i. digit w (at i)) (sym index) ∙ has j h word

  in_second : (w : ℕ) → HasElements bits head len at bit 1 w → (j : ℕ) → j < len → bits ≤ head + j → head + j < bits + bits → digit w (at (head + j - bits)) ≡ bit j
  in_second w has j h low high =
      let e : head + j ≡ 1 * bits + (head + j - bits) = omega arith in
      let rest : head + j - bits < bits = omega arith in
      let word : (head + j) / bits ≡ 1 = ap (λ n. n / bits) e ∙ div-mul-add 1 bits (head + j - bits) rest in
      let index : (head + j) % bits ≡ head + j - bits = ap (λ n. n % bits) e ∙ mod-mul-add 1 bits (head + j - bits) rest in
      ap (λ i. digit w (at i)) (sym index) ∙ has j h word

  -- one word, moved down
  pub one_rising : (rises : Bool) → rises ≡ true → IsSequential bits rises at → (w r down : ℕ) → HasElements bits head len at bit 0 w → head + len ≤ bits → down ≡ head
      → ((p : ℕ) → down + p < bits → digit r p ≡ digit w (down + p)) → (j : ℕ) → j < len → digit r (digit_place (not rises) bits rises head len j) ≡ bit j
  one_rising true e law w r down has within is moved j h =
      let small : head + j < bits = omega arith in
      let place : down + j ≡ head + j = omega arith in
      moved j (omega arith) ∙ ap (digit w) (place ∙ sym (law.positions (head + j) small)) ∙ in_first w has j h small
  one_rising false e law w r down has within is moved j h = absurd cc

  pub one_falling : (rises : Bool) → rises ≡ false → IsSequential bits rises at → (w r down : ℕ) → HasElements bits head len at bit 0 w → head + len ≤ bits → down ≡ bits - (head + len)
      → ((p : ℕ) → down + p < bits → digit r p ≡ digit w (down + p)) → (j : ℕ) → j < len → digit r (digit_place (not rises) bits rises head len j) ≡ bit j
  one_falling false e law w r down has within is moved j h =
      let small : head + j < bits = omega arith in
      let place : down + (len - 1 - j) ≡ bits - 1 - (head + j) = omega arith in
      moved (len - 1 - j) (omega arith) ∙ ap (digit w) (place ∙ sym (law.positions (head + j) small)) ∙ in_first w has j h small
  one_falling true e law w r down has within is moved j h = absurd cc

  -- two words, merged
  pub two_rising : (rises : Bool) → rises ≡ true → IsSequential bits rises at → (a b r by : ℕ) → HasElements bits head len at bit 0 a → HasElements bits head len at bit 1 b → head < bits → len ≤ bits → by ≡ head
      → ((p : ℕ) → p < bits → digit r p ≡ merged_digit bits by a b p) → (j : ℕ) → j < len → digit r (digit_place (not rises) bits rises head len j) ≡ bit j
  two_rising true e law a b r by first second in_head long is joined j h =
      joined j (omega arith)
      ∙ ap (λ n. merged_digit bits n a b j) is
      ∙ elim (cases_lt (head + j) bits) [
        | inl less ↦ (rw (lt-ltb (head + j) bits less) (ap (digit a) (sym (law.positions (head + j) less)) ∙ in_first a first j h less))
        | inr more ↦ (
            let rest : head + j - bits < bits = omega arith in
            rw (le-ltb (head + j) bits more) (ap (digit b) (sym (law.positions (head + j - bits) rest)) ∙ in_second b second j h more (omega arith)))
      ]
  two_rising false e law a b r by first second in_head long is joined j h = absurd cc

  pub two_falling : (rises : Bool) → rises ≡ false → IsSequential bits rises at → (a b r by : ℕ) → HasElements bits head len at bit 0 a → HasElements bits head len at bit 1 b → head < bits → len ≤ bits
      → bits < head + len → by ≡ bits - (head + len - bits) → ((p : ℕ) → p < bits → digit r p ≡ merged_digit bits by b a p) → (j : ℕ) → j < len
      → digit r (digit_place (not rises) bits rises head len j) ≡ bit j
  two_falling false e law a b r by first second in_head long over is joined j h =
      joined (len - 1 - j) (omega arith)
      ∙ elim (cases_lt (head + j) bits) [
        | inl less ↦ (
            let place : by + (len - 1 - j) - bits ≡ bits - 1 - (head + j) = omega arith in
            rw (le-ltb (by + (len - 1 - j)) bits (omega arith)) (ap (digit a) (place ∙ sym (law.positions (head + j) less)) ∙ in_first a first j h less))
        | inr more ↦ (
            let rest : head + j - bits < bits = omega arith in
            let place : by + (len - 1 - j) ≡ bits - 1 - (head + j - bits) = omega arith in
            rw (lt-ltb (by + (len - 1 - j)) bits (omega arith)) (ap (digit b) (place ∙ sym (law.positions (head + j - bits) rest)) ∙ in_second b second j h more (omega arith)))
      ]
  two_falling true e law a b r by first second in_head long over is joined j h = absurd cc

-- the elements of a list in the bytes that it lies in, four side by side
module _ (head len : ℕ) (at : ℕ → ℕ) (bit : ℕ → Bool) where
  -- an element of byte k, at its position in the byte
  of_byte : (rises : Bool) → IsSequential 8 rises at → (k w q : ℕ) → HasElements 8 head len at bit k w → (j : ℕ) → j < len
      → k * 8 ≤ head + j → head + j < k * 8 + 8 → q ≡ position_of 8 rises (head + j - k * 8) → digit w q ≡ bit j
  of_byte rises law k w q has j h low high e =
      let rest : head + j - k * 8 < 8 = omega arith in
      let place : head + j ≡ k * 8 + (head + j - k * 8) = omega arith in
      let word : (head + j) / 8 ≡ k = ap (λ n. n / 8) place ∙ div-mul-add k 8 (head + j - k * 8) rest in
      let index : (head + j) % 8 ≡ head + j - k * 8 = ap (λ n. n % 8) place ∙ mod-mul-add k 8 (head + j - k * 8) rest in
      ap (digit w) (e ∙ sym (law.positions (head + j - k * 8) rest)) ∙ ap (λ i. digit w (at i)) (sym index) ∙ has j h word

  -- n has the digits of four bytes, those of `a` lowest, and r those of n moved down
  module _ (a b c d n r down : ℕ) (of_a : (p : ℕ) → p < 8 → digit n p ≡ digit a p) (of_b : (p : ℕ) → p < 8 → digit n (8 + p) ≡ digit b p)
      (of_c : (p : ℕ) → p < 8 → digit n (16 + p) ≡ digit c p) (of_d : (p : ℕ) → p < 8 → digit n (24 + p) ≡ digit d p)
      (moved : (p : ℕ) → down + p < 32 → digit r p ≡ digit n (down + p)) where
    -- digit q of n, which is digit p of a byte
    from_b : (q p : ℕ) → q ≡ 8 + p → p < 8 → digit n q ≡ digit b p
    from_b q p e h = ap (digit n) e ∙ of_b p h

    from_c : (q p : ℕ) → q ≡ 16 + p → p < 8 → digit n q ≡ digit c p
    from_c q p e h = ap (digit n) e ∙ of_c p h

    from_d : (q p : ℕ) → q ≡ 24 + p → p < 8 → digit n q ≡ digit d p
    from_d q p e h = ap (digit n) e ∙ of_d p h

    pub four_rising : (rises : Bool) → rises ≡ true → IsSequential 8 rises at → HasElements 8 head len at bit 0 a → HasElements 8 head len at bit 1 b
        → HasElements 8 head len at bit 2 c → HasElements 8 head len at bit 3 d → head + len ≤ 32 → down ≡ head → (j : ℕ) → j < len
        → digit r (digit_place (not rises) 8 rises head len j) ≡ bit j
    four_rising true e law first second third last within is j h =
        let place : down + j ≡ head + j = omega arith in
        moved j (omega arith) ∙ ap (digit n) place
        ∙ elim (cases_lt (head + j) 8) [
          | inl in_a ↦ (of_a (head + j) in_a ∙ of_byte true law 0 a (head + j) first j h (omega arith) (omega arith) (omega arith))
          | inr past_a ↦ elim (cases_lt (head + j) 16) [
            | inl in_b ↦ (from_b (head + j) (head + j - 8) (omega arith) (omega arith) ∙ of_byte true law 1 b (head + j - 8) second j h (omega arith) (omega arith) (omega arith))
            | inr past_b ↦ elim (cases_lt (head + j) 24) [
              | inl in_c ↦ (from_c (head + j) (head + j - 16) (omega arith) (omega arith) ∙ of_byte true law 2 c (head + j - 16) third j h (omega arith) (omega arith) (omega arith))
              | inr past_c ↦ (from_d (head + j) (head + j - 24) (omega arith) (omega arith) ∙ of_byte true law 3 d (head + j - 24) last j h (omega arith) (omega arith) (omega arith))
            ]
          ]
        ]
    four_rising false e law first second third last within is j h = absurd cc

    pub four_falling : (rises : Bool) → rises ≡ false → IsSequential 8 rises at → HasElements 8 head len at bit 0 d → HasElements 8 head len at bit 1 c
        → HasElements 8 head len at bit 2 b → HasElements 8 head len at bit 3 a → head + len ≤ 32 → down ≡ 32 - (head + len) → (j : ℕ) → j < len
        → digit r (digit_place (not rises) 8 rises head len j) ≡ bit j
    four_falling false e law first second third last within is j h =
        let place : down + (len - 1 - j) ≡ 31 - (head + j) = omega arith in
        moved (len - 1 - j) (omega arith) ∙ ap (digit n) place
        ∙ elim (cases_lt (head + j) 8) [
          | inl in_d ↦ (from_d (31 - (head + j)) (7 - (head + j)) (omega arith) (omega arith) ∙ of_byte false law 0 d (7 - (head + j)) first j h (omega arith) (omega arith) (omega arith))
          | inr past_d ↦ elim (cases_lt (head + j) 16) [
            | inl in_c ↦ (from_c (31 - (head + j)) (15 - (head + j)) (omega arith) (omega arith) ∙ of_byte false law 1 c (15 - (head + j)) second j h (omega arith) (omega arith) (omega arith))
            | inr past_c ↦ elim (cases_lt (head + j) 24) [
              | inl in_b ↦ (from_b (31 - (head + j)) (23 - (head + j)) (omega arith) (omega arith) ∙ of_byte false law 2 b (23 - (head + j)) third j h (omega arith) (omega arith) (omega arith))
              | inr past_b ↦ (of_a (31 - (head + j)) (omega arith) ∙ of_byte false law 3 a (31 - (head + j)) last j h (omega arith) (omega arith) (omega arith))
            ]
          ]
        ]
    four_falling true e law first second third last within is j h = absurd cc

-- the low digits of a number that has a list's elements in their order are the list's number
pub near_number : (rises : Bool) (bits most head len : ℕ) (xs : List Bool) (w n : ℕ) → 0 < bits → head < bits → length xs ≡ len → len ≤ most → n < 2 ^ most
    → ((p : ℕ) → p < most → digit n p ≡ (nat_lt p len && digit w p)) → ((j : ℕ) → j < len → digit w (digit_place (not rises) bits rises head len j) ≡ element xs j)
    → (n < 2 ^ len) × (n ≡ field_number (not rises) bits rises head xs)
near_number rises bits most head len xs w n some in_head long near small cut has =
    let past : (p : ℕ) → len ≤ p → digit n p ≡ false = λ p h. elim (cases_lt p most) [
      | inl below ↦ cut p below ∙ rw (le-ltb p len h) refl
      | inr above ↦ digit_above n most p small above
    ] in
    let fewer : n < 2 ^ len = small_from_digits n most len small past in
    let law = digit_places bits head len some in_head (not rises) rises in
    let each : (j : ℕ) → j < len → digit n (digit_place (not rises) bits rises head len j) ≡ element xs j = λ j h.
    let below : digit_place (not rises) bits rises head len j < len = law.below j h in
    cut (digit_place (not rises) bits rises head len j) (omega (arith, below, near)) ∙ rw (lt-ltb (digit_place (not rises) bits rises head len j) len below) (has j h) in (
      fewer,
      number_of-from_digits len (digit_place (not rises) bits rises head len) (element xs) n law fewer each
          ∙ ap (λ m. number_of (digit_place (not rises) bits rises head m) (element xs) m) (sym long),
    )
