-- Under a steady order a field has the number that was put in it.
use Rattle.std.proofs.Common.{◌≡◌, ℕ, ◌+◌, ◌-◌, ◌*◌, ◌^◌, ◌<◌, ◌≤◌, ◌⊎◌, Bool, false, ◌&&◌, List, nat_le, arith, inl, inr, subst, ap, refl, sym, ◌∙◌}
use Rattle.std.proofs.lemmas.Nat.{pow_below}
use Rattle.std.proofs.lemmas.Bool.{cases_lt, le-leb, lt-leb}
use Rattle.bitvec.specs.Digit.{digit}
use Rattle.bitvec.specs.SameDigits.{same_from_digits}
use Rattle.bitvec.specs.Order.{IsOneToOne}
use Rattle.bitvec.specs.OrderLemmas.{number_of_below}
use Rattle.bitvec.specs.Memory.{bit_of}
use Rattle.bitvec.specs.Span.{list_of, element, word_of}
use Rattle.bitvec.proofs.DigitLemmas.{digit-shr, digit-shl_high, digit_above, shr_fits}
use Rattle.bitvec.proofs.IndexLemmas.{digit-number_of_at}
use Rattle.bitvec.proofs.PartLemmas.{element-list_of, element_past}
use Rattle.example_packet.specs.Field.{field_span, lowest_of, shifted_number, HasNumber, number_in, IsSteady}

-- the orders of the Rust crate are steady
pub lsb0_steady : IsSteady (λ i. i)
lsb0_steady = inl (λ i h. refl)

pub msb0_steady : IsSteady (λ i. 31 - i)
msb0_steady = inr (λ i h. omega (arith, h))

module _ (at : ℕ → ℕ) (start len : ℕ) (some : 1 ≤ len) (in_word : start + len ≤ 32) where
  abbrev lowest : ℕ
  lowest = lowest_of at start len

  -- where the lowest digit stands
  lowest-rising : ((i : ℕ) → i < 32 → at i ≡ i) → lowest ≡ start
  lowest-rising rises =
      let first = rises start (omega (arith, some, in_word)) in
      let last = rises (start + len - 1) (omega (arith, some, in_word)) in
      rw (le-leb (at start) (at (start + len - 1)) (omega (arith, first, last, some))) first

  lowest-falling : ((i : ℕ) → i < 32 → at i + i ≡ 31) → lowest + start + len ≡ 32
  lowest-falling falls =
      let first = falls start (omega (arith, some, in_word)) in
      let last = falls (start + len - 1) (omega (arith, some, in_word)) in
      elim (cases_lt (at (start + len - 1)) (at start)) [
        | inl less ↦ rw (lt-leb (at start) (at (start + len - 1)) less) (omega (arith, last, some, in_word))
        | inr same ↦ rw (le-leb (at start) (at (start + len - 1)) same) (omega (arith, first, last, same, some, in_word))
      ]

  -- the index of the digit that stands so far above the lowest: in the field for the number's digits, and else outside
  pub record IndexOf (p : ℕ) : Type 0 where
    pub index : ℕ
    pub below : index < 32
    pub stands : at index ≡ lowest + p
    pub inside : p < len → (start ≤ index) × (index < start + len)
    pub outside : len ≤ p → (index < start) ⊎ (start + len ≤ index)

  index_of_digit : IsSteady at → (p : ℕ) → lowest + p < 32 → IndexOf p
  index_of_digit (inl rises) p h =
      let low = lowest-rising rises in record {
        index = start + p;
        below = omega (arith, low, h);
        stands = rises (start + p) (omega (arith, low, h)) ∙ omega (arith, low);
        inside = λ l. (omega arith, omega (arith, l));
        outside = λ l. inr (omega (arith, l));
      }
  index_of_digit (inr falls) p h =
      let low = lowest-falling falls in
      let there = falls (31 - (lowest + p)) (omega arith) in record {
        index = 31 - (lowest + p);
        below = omega arith;
        stands = omega (arith, there, h);
        inside = λ l. (omega (arith, low, l), omega (arith, low, l, some));
        outside = λ l. inl (omega (arith, low, l, h));
      }

  module _ (law : IsOneToOne 32 at) (number : ℕ) (words : List ℕ) (has : HasNumber at start len number words) where
    abbrev bits_in : ℕ
    bits_in = word_of 32 at start (list_of 32 at (field_span start len) words) 0

    abbrev bit_in : ℕ → Bool
    bit_in i = nat_le start (0 * 32 + i) && element (list_of 32 at (field_span start len) words) (0 * 32 + i - start)

    bits_in_fit : bits_in < 2 ^ 32
    bits_in_fit = number_of_below 32 at bit_in 32 (λ i h passes. law.below i h)

    digit-inside : (i : ℕ) → i < 32 → start ≤ i → i < start + len → digit bits_in (at i) ≡ digit (shifted_number at start len number) (at i)
    digit-inside i h from upto =
        let j : ℕ = 0 * 32 + i - start in
        let here : 0 * 32 + start + j ≡ i = omega (arith, from) in
        digit-number_of_at 32 at bit_in i law h
        ∙ (rw (le-leb start (0 * 32 + i) (omega (arith, from))) (element-list_of 32 at (field_span start len) words j (omega (arith, from, upto)) ∙ ap (bit_of 32 at words) here))
        ∙ has i from upto

    digit-outside : (i : ℕ) → i < 32 → (i < start) ⊎ (start + len ≤ i) → digit bits_in (at i) ≡ false
    digit-outside i h (inl before) = digit-number_of_at 32 at bit_in i law h ∙ (rw (lt-leb start (0 * 32 + i) (omega (arith, before))) refl)
    digit-outside i h (inr behind) =
        digit-number_of_at 32 at bit_in i law h
        ∙ (rw (le-leb start (0 * 32 + i) (omega (arith, behind))) (element_past 32 at (field_span start len) words (0 * 32 + i - start) (omega (arith, behind))))

    digit-same : IsSteady at → number < 2 ^ len → (p : ℕ) → p < 32 → digit (number_in at start len words) p ≡ digit number p
    digit-same steady small p h =
        digit-shr bits_in lowest p
        ∙ elim (cases_lt (lowest + p) 32) [
          | inl inside ↦ (
              let place = index_of_digit steady p inside in
              sym (ap (digit bits_in) place.stands)
              ∙ elim (cases_lt p len) [
                | inl l ↦ digit-inside place.index place.below (place.inside l).0 (place.inside l).1 ∙ ap (digit (shifted_number at start len number)) place.stands ∙ digit-shl_high 32 number lowest p inside
                | inr l ↦ digit-outside place.index place.below (place.outside l) ∙ sym (digit_above number len p small l)
              ])
          | inr past ↦ digit_above bits_in 32 (lowest + p) bits_in_fit past ∙ sym (digit_above number len p small (past_len steady past))
        ]
      where
        past_len : IsSteady at → 32 ≤ lowest + p → len ≤ p
        past_len (inl rises) past = let low = lowest-rising rises in omega (arith, low, past, in_word)
        past_len (inr falls) past = let low = lowest-falling falls in omega (arith, low, past, in_word)

    pub number_in-same : IsSteady at → number < 2 ^ len → number_in at start len words ≡ number
    number_in-same steady small =
        same_from_digits 32 (number_in at start len words) number (shr_fits 32 bits_in lowest bits_in_fit) (number_fits number len small (omega (arith, in_word))) (digit-same steady small)
      where
        number_fits : (n k : ℕ) → n < 2 ^ k → k ≤ 32 → n < 2 ^ 32
        number_fits n k h le = elim (cases_lt k 32) [
          | inl less ↦ (let more = pow_below k 32 less in omega (arith, h, more))
          | inr same ↦ subst (λ m. n < 2 ^ m) (let e : k ≡ 32 = omega (arith, le, same) in e) h
        ]
