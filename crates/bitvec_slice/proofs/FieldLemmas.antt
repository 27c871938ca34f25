-- Numbers in lists of bits, by the words' parts.
use Rattle.std.proofs.Common.{◌≡◌, ℕ, ◌+◌, ◌-◌, ◌*◌, ◌/◌, ◌%◌, ◌^◌, ◌<◌, ◌≤◌, ◌==◌, ◌&&◌, ◌||◌, Bool, true, false, nat_lt, List, length, refl, sym, ap, subst, ◌∙◌, inl, inr, arith}
use Rattle.std.specs.Prelude.{Option, Some, None, IsSome, IsNone}
use Rattle.std.proofs.lemmas.Bool.{cases_eq, cases_lt, cases_order, lt-ltb, le-ltb, eq-eqb, ne_eqb}
use Rattle.std.proofs.lemmas.Nat.{div-add-mod', mod_below, div-mul-add, pow_pos, le-div}
use Rattle.std.proofs.Math.Nat.{mod-lt, mul-le-mul_right}
use Rattle.std.proofs.Math.Pow.{pow_mono}
use Rattle.bitvec.specs.Digit.{digit}
use Rattle.bitvec.specs.SameDigits.{same_from_digits}
use Rattle.bitvec.specs.Place.{words_met}
use Rattle.bitvec.specs.Order.{IsOneToOne}
use Rattle.bitvec.specs.OrderLemmas.{number_of_below}
use Rattle.bitvec.specs.Span.{element}
use Rattle.bitvec.proofs.DigitLemmas.{digit-mod, digit_above}
use Rattle.bitvec.proofs.IndexLemmas.{digit-number_of_at, number_of-from_digits}
use Rattle.bitvec.proofs.PlaceLemmas.{words_met-some}
use Rattle.bitvec.proofs.PartLemmas.{some_len}
use Rattle.bitvec_slice.specs.Field.{IsSequential, position_of, stretch_start, stretch_end, mirrored, digit_place, field_number, part_place, part_step, part_shift, IsWordPart, IsPlacedPart}

-- a number with no digit from n on is below two to the n
pub small_from_digits : (w k n : ℕ) → w < 2 ^ k → ((p : ℕ) → n ≤ p → digit w p ≡ false) → w < 2 ^ n
small_from_digits w k n small none =
    elim (cases_lt k n) [
      | inl below ↦ (let more : 2 ^ k ≤ 2 ^ n = pow_mono (omega arith) in omega (arith, small, more))
      | inr above ↦ (
          let rest : w % 2 ^ n < 2 ^ n = mod-lt w (pow_pos n) in
          let more : 2 ^ n ≤ 2 ^ k = pow_mono above in
          let same : w ≡ w % 2 ^ n = same_from_digits k w (w % 2 ^ n) small (omega (arith, rest, more)) (λ p h. elim (cases_lt p n) [
            | inl low ↦ sym (digit-mod w n p low)
            | inr high ↦ none p high ∙ sym (digit_above (w % 2 ^ n) n p rest high)
          ]) in
          omega (arith, rest, same))
    ]

-- ---- where word k has elements of a list

module _ (bits head len k : ℕ) (some : 0 < bits) (in_head : head < bits) where
  pub in_stretch : (j : ℕ) → j < len → (head + j) / bits ≡ k → (stretch_start bits head k ≤ j) × (j < stretch_end bits head len k)
  in_stretch j h e =
      let parts = div-add-mod' (head + j) bits in
      let small = mod_below (head + j) bits some in
      let product : (head + j) / bits * bits ≡ k * bits = ap (λ n. n * bits) e in
      (omega (arith, parts, small, product), omega (arith, parts, small, product))

  pub from_stretch : (j : ℕ) → stretch_start bits head k ≤ j → j < stretch_end bits head len k → (head + j) / bits ≡ k
  from_stretch j from upto =
      let rest : head + j - k * bits < bits = omega arith in
      let e : head + j ≡ k * bits + (head + j - k * bits) = omega arith in
      ap (λ n. n / bits) e ∙ div-mul-add k bits (head + j - k * bits) rest

  pub met_bounds : k < words_met bits head len → (stretch_start bits head k < len) × (0 < stretch_end bits head len k) × (stretch_start bits head k < stretch_end bits head len k) × (k * bits < head + len)
  met_bounds met =
      let long = some_len bits head len k met in
      let last : k ≤ (head + len - 1) / bits = omega (arith, met, words_met-some bits head len long) in
      let row : k * bits ≤ (head + len - 1) / bits * bits = mul-le-mul_right bits last in
      let parts = div-add-mod' (head + len - 1) bits in
      (omega (arith, long, row, parts), omega (arith, long, row, parts), omega (arith, long, row, parts), omega (arith, long, row, parts))

-- every element lies in a word that is met
pub met_word : (bits head len j : ℕ) → 0 < bits → j < len → (head + j) / bits < words_met bits head len
met_word bits head len j some h =
    let count = words_met-some bits head len (omega arith) in
    let parts = div-add-mod' (head + j) bits in
    let up : (head + j) / bits ≤ (head + len - 1) / bits = le-div ((head + j) / bits) (head + len - 1) bits some (omega (arith, parts)) in
    omega (arith, count, up)

-- ---- the digit that an element is

module _ (bits head len : ℕ) (some : 0 < bits) (in_head : head < bits) where
  -- an element's digit lies in its word's part of the number, and its position in the word's part of the word
  module _ (j k : ℕ) (inside : j < len) (word : (head + j) / bits ≡ k) where
    mirrored_is : mirrored bits head len j ≡ stretch_start bits head k + stretch_end bits head len k - 1 - j
    mirrored_is = ap (λ n. stretch_start bits head n + stretch_end bits head len n - 1 - j) word

    pub place_in_part : (big rises : Bool) → digit_place big bits rises head len j ≡ part_place big bits head len k + part_step rises bits head len k j
    place_in_part false true = let b = in_stretch bits head len k some in_head j inside word in omega (arith, b)
    place_in_part false false = let b = in_stretch bits head len k some in_head j inside word in mirrored_is ∙ omega (arith, b)
    place_in_part true false = let b = in_stretch bits head len k some in_head j inside word in omega (arith, b, inside)
    place_in_part true true = let b = in_stretch bits head len k some in_head j inside word in ap (λ m. len - 1 - m) mirrored_is ∙ omega (arith, b, inside)

    pub position_in_part : (rises : Bool) → (position_of bits rises ((head + j) % bits) ≡ part_shift rises bits head len k + part_step rises bits head len k j) × (part_shift rises bits head len k + part_step rises bits head len k j < bits)
    position_in_part rises =
        let b = in_stretch bits head len k some in_head j inside word in
        let parts = div-add-mod' (head + j) bits in
        let small = mod_below (head + j) bits some in
        let product : (head + j) / bits * bits ≡ k * bits = ap (λ n. n * bits) word in
        position ((head + j) % bits) (omega (arith, parts, product)) small b.0 b.1 rises
      where
        position : (i : ℕ) → head + j ≡ k * bits + i → i < bits → stretch_start bits head k ≤ j → j < stretch_end bits head len k → (rises : Bool)
            → (position_of bits rises i ≡ part_shift rises bits head len k + part_step rises bits head len k j) × (part_shift rises bits head len k + part_step rises bits head len k j < bits)
        position i is small from upto true = (omega (arith, is), omega (arith, is, small))
        position i is small from upto false = (omega (arith, is, small), omega (arith, is, small))

    pub step_within : (big rises : Bool) → (part_place big bits head len k + part_step rises bits head len k j < len) × (part_step rises bits head len k j < stretch_end bits head len k - stretch_start bits head k)
    step_within true true = let b = in_stretch bits head len k some in_head j inside word in (omega (arith, b, inside), omega (arith, b, inside))
    step_within true false = let b = in_stretch bits head len k some in_head j inside word in (omega (arith, b, inside), omega (arith, b, inside))
    step_within false true = let b = in_stretch bits head len k some in_head j inside word in (omega (arith, b, inside), omega (arith, b, inside))
    step_within false false = let b = in_stretch bits head len k some in_head j inside word in (omega (arith, b, inside), omega (arith, b, inside))

    mirrored_back : (mirrored bits head len j < len) × (mirrored bits head len (mirrored bits head len j) ≡ j)
    mirrored_back =
        let b = in_stretch bits head len k some in_head j inside word in
        let is = mirrored_is in
        let same : (head + mirrored bits head len j) / bits ≡ k = from_stretch bits head len k some in_head (mirrored bits head len j) (omega (arith, b, is)) (omega (arith, b, is)) in (
          omega (arith, b, is),
          ap (λ n. stretch_start bits head n + stretch_end bits head len n - 1 - mirrored bits head len j) same ∙ omega (arith, b, is),
        )

  -- the digits of different elements are different, and there is one for each
  pub digit_places : (big rises : Bool) → IsOneToOne len (digit_place big bits rises head len)
  digit_places big rises = record {
    below = λ j h. below big rises j h;
    apart = λ i j h_i h_j e. apart big rises i j h_i h_j e;
  }
    where
      below : (big rises : Bool) (j : ℕ) → j < len → digit_place big bits rises head len j < len
      below false true j h = h
      below false false j h = (mirrored_back j ((head + j) / bits) h refl).0
      below true false j h = omega (arith, h)
      below true true j h = omega (arith, h)

      mirror_apart : (i j : ℕ) → i < len → j < len → mirrored bits head len i ≡ mirrored bits head len j → i ≡ j
      mirror_apart i j h_i h_j e = sym (mirrored_back i ((head + i) / bits) h_i refl).1 ∙ ap (mirrored bits head len) e ∙ (mirrored_back j ((head + j) / bits) h_j refl).1

      apart : (big rises : Bool) (i j : ℕ) → i < len → j < len → digit_place big bits rises head len i ≡ digit_place big bits rises head len j → i ≡ j
      apart false true i j h_i h_j e = e
      apart false false i j h_i h_j e = mirror_apart i j h_i h_j e
      apart true false i j h_i h_j e = omega (arith, h_i, h_j, e)
      apart true true i j h_i h_j e = mirror_apart i j h_i h_j (omega (arith, (mirrored_back i ((head + i) / bits) h_i refl).0, (mirrored_back j ((head + j) / bits) h_j refl).0, e))

  -- the elements of one word are digits as they are digits of the word: as far apart, and in the same order
  pub digits_in_one_word : (big rises : Bool) (i j : ℕ) → i < len → j < len → (head + i) / bits ≡ (head + j) / bits
      → digit_place big bits rises head len i + position_of bits rises ((head + j) % bits) ≡ digit_place big bits rises head len j + position_of bits rises ((head + i) % bits)
  digits_in_one_word big rises i j h_i h_j same =
      let k = (head + j) / bits in
      let place_i = place_in_part i k h_i same big rises in
      let place_j = place_in_part j k h_j refl big rises in
      let position_i = position_in_part i k h_i same rises in
      let position_j = position_in_part j k h_j refl rises in
      omega (arith, place_i, place_j, position_i.0, position_j.0)

  -- the elements of an earlier word are lower digits little-endian, and higher ones big-endian
  pub digits_of_earlier_word : (rises : Bool) (i j : ℕ) → i < len → j < len → (head + i) / bits < (head + j) / bits
      → (digit_place false bits rises head len i < digit_place false bits rises head len j) × (digit_place true bits rises head len j < digit_place true bits rises head len i)
  digits_of_earlier_word rises i j h_i h_j earlier =
      let k = (head + i) / bits in
      let l = (head + j) / bits in
      let low_i = place_in_part i ((head + i) / bits) h_i refl false rises in
      let low_j = place_in_part j ((head + j) / bits) h_j refl false rises in
      let high_i = place_in_part i ((head + i) / bits) h_i refl true rises in
      let high_j = place_in_part j ((head + j) / bits) h_j refl true rises in
      let within_i = step_within i ((head + i) / bits) h_i refl false rises in
      let within_j = step_within j ((head + j) / bits) h_j refl false rises in
      let next : ((head + i) / bits + 1) * bits ≤ (head + j) / bits * bits = mul-le-mul_right bits (omega (arith, earlier)) in
      let after : (head + i) / bits * bits + bits ≤ (head + j) / bits * bits = omega (arith, next) in
      let b_i = in_stretch bits head len ((head + i) / bits) some in_head i h_i refl in
      let b_j = in_stretch bits head len ((head + j) / bits) some in_head j h_j refl in
      (omega (arith, after, low_i, low_j, within_i.1, within_j.1, b_i, b_j), omega (arith, after, high_i, high_j, within_i.1, within_j.1, b_i, b_j))

-- ---- a word's part as a number

-- the digits of v moved up in r, a number of at most `most` digits
pub record IsMovedUp (up most v r : ℕ) : Type 0 where
  pub below : r < 2 ^ most
  pub low : (p : ℕ) → p < up → digit r p ≡ false
  pub moved : (p : ℕ) → up + p < most → digit r (up + p) ≡ digit v p

-- the digits of w moved down in v, numbers of at most `most` digits
pub record IsMovedDown (down most w v : ℕ) : Type 0 where
  pub below : v < 2 ^ most
  pub moved : (p : ℕ) → down + p < most → digit v p ≡ digit w (down + p)
  pub high : (p : ℕ) → p < most → most ≤ down + p → digit v p ≡ false

module _ (bits head len k : ℕ) (bit : ℕ → Bool) (some : 0 < bits) (in_head : head < bits) (met : k < words_met bits head len) where
  -- `w` has the elements where the word has them, `v` is `w` moved down, and `r` has the digits of `v` that are the part's
  pub part_cut : (at : ℕ → ℕ) (w v r : ℕ) (rises : Bool) → IsSequential bits rises at
      → ((j : ℕ) → j < len → (head + j) / bits ≡ k → digit w (at ((head + j) % bits)) ≡ bit j)
      → IsMovedDown (part_shift rises bits head len k) bits w v → r < 2 ^ bits
      → ((p : ℕ) → p < bits → digit r p ≡ (nat_lt p (stretch_end bits head len k - stretch_start bits head k) && digit v p)) → IsWordPart rises bits head len k bit r
  part_cut at w v r rises law is_word down small cut = record {
    digits = λ j h word.
        let lies = position_in_part bits head len some in_head j k h word rises in
        let within = step_within bits head len some in_head j k h word false rises in
        let inside = mod_below (head + j) bits some in
        let step = part_step rises bits head len k j in
        cut (part_step rises bits head len k j) (omega (arith, lies.1))
        ∙ rw (lt-ltb (part_step rises bits head len k j) (stretch_end bits head len k - stretch_start bits head k) within.1) (
        down.moved (part_step rises bits head len k j) lies.1
        ∙ ap (digit w) (sym (law.positions ((head + j) % bits) inside ∙ lies.0))
        ∙ is_word j h word);
    past = λ p h. elim (cases_lt p bits) [
      | inr above ↦ digit_above r bits p small above
      | inl below ↦ cut p below ∙ rw (le-ltb p (stretch_end bits head len k - stretch_start bits head k) h) refl
    ];
  }

  -- the element of word k that is digit q
  element_at : (big rises : Bool) (q : ℕ) → part_place big bits head len k ≤ q → q - part_place big bits head len k < stretch_end bits head len k - stretch_start bits head k
      → (i : ℕ) × (i < len) × ((head + i) / bits ≡ k) × (digit_place big bits rises head len i ≡ q)
  element_at big rises q from near = there rises
    where
      named : (rises : Bool) (i : ℕ) → stretch_start bits head k ≤ i → i < stretch_end bits head len k → part_place big bits head len k + part_step rises bits head len k i ≡ q
          → (i : ℕ) × (i < len) × ((head + i) / bits ≡ k) × (digit_place big bits rises head len i ≡ q)
      named rises i from_start upto is =
          let word = from_stretch bits head len k some in_head i from_start upto in
          let h : i < len = omega (arith, upto) in
          (i, h, word, place_in_part bits head len some in_head i k h word big rises ∙ is)

      there : (rises : Bool) → (i : ℕ) × (i < len) × ((head + i) / bits ≡ k) × (digit_place big bits rises head len i ≡ q)
      there true = named true (stretch_start bits head k + (q - part_place big bits head len k)) (omega arith) (omega (arith, near)) (omega (arith, from))
      there false = named false (stretch_end bits head len k - 1 - (q - part_place big bits head len k)) (omega (arith, near)) (omega (arith, near)) (omega (arith, from, near))

  pub part_placed : (big rises : Bool) (most v r : ℕ) → len ≤ most → IsWordPart rises bits head len k bit v → IsMovedUp (part_place big bits head len k) most v r → IsPlacedPart big bits rises head len k bit r
  part_placed big rises most v r long part up = record {
    digits = λ j h. elim (cases_eq ((head + j) / bits) k) [
      | inl same ↦ (
          let within = step_within bits head len some in_head j k h same big rises in
          rw (eq-eqb ((head + j) / bits) k same) (
          ap (digit r) (place_in_part bits head len some in_head j k h same big rises)
          ∙ up.moved (part_step rises bits head len k j) (omega (arith, within, long))
          ∙ part.digits j h same))
      | inr differ ↦ (
          let law = digit_places bits head len some in_head big rises in
          rw (ne_eqb ((head + j) / bits) k differ) (elsewhere (digit_place big bits rises head len j) (law.below j h)
          (λ from near. let i = element_at big rises (digit_place big bits rises head len j) from near in differ (ap (λ n. (head + n) / bits) (sym (law.apart i.0 j i.1 h i.3)) ∙ i.2))))
    ];
    past = λ q h. elim (cases_lt q most) [
      | inr above ↦ digit_above r most q up.below above
      | inl within ↦ (
          let room = place_room big in
          past_at q (omega (arith, h, room)) within (omega (arith, h, room)))
    ];
  }
    where
      place_room : (big : Bool) → part_place big bits head len k + (stretch_end bits head len k - stretch_start bits head k) ≤ len
      place_room true = let bounds = met_bounds bits head len k some in_head met in omega (arith, bounds)
      place_room false = let bounds = met_bounds bits head len k some in_head met in omega (arith, bounds)

      past_at : (q : ℕ) → part_place big bits head len k ≤ q → q < most → stretch_end bits head len k - stretch_start bits head k ≤ q - part_place big bits head len k → digit r q ≡ false
      past_at q from within far =
          let e : q ≡ part_place big bits head len k + (q - part_place big bits head len k) = omega (arith, from) in
          ap (digit r) e ∙ up.moved (q - part_place big bits head len k) (omega (arith, from, within)) ∙ part.past (q - part_place big bits head len k) far

      elsewhere : (q : ℕ) → q < len → (part_place big bits head len k ≤ q → q - part_place big bits head len k < stretch_end bits head len k - stretch_start bits head k → ⊥) → digit r q ≡ false
      elsewhere q h apart =
          elim (cases_lt q (part_place big bits head len k)) [
            | inl below ↦ up.low q below
            | inr from ↦ elim (cases_lt (q - part_place big bits head len k) (stretch_end bits head len k - stretch_start bits head k)) [
              | inl near ↦ absurd (apart from near)
              | inr far ↦ past_at q from (omega (arith, h, long)) far
            ]
          ]

-- ---- all words

-- one word more
pub more_words : (word k : ℕ) (e a b c : Bool) → a ≡ (nat_lt word k && e) → b ≡ ((word == k) && e) → c ≡ (a || b) → c ≡ (nat_lt word (k + 1) && e)
more_words word k e a b c is_a is_b is_c =
    elim (cases_order word k) [
      | inl same ↦ is_c ∙ rw (is_a, is_b, le-ltb word k (omega arith), eq-eqb word k same, lt-ltb word (k + 1) (omega arith)) refl
      | inr (inl below) ↦ is_c ∙ rw (is_a, is_b, lt-ltb word k below, ne_eqb word k (λ s. absurd (omega arith)), lt-ltb word (k + 1) (omega arith)) (or_false e)
      | inr (inr above) ↦ is_c ∙ rw (is_a, is_b, le-ltb word k (omega arith), ne_eqb word k (λ s. absurd (omega arith)), le-ltb word (k + 1) (omega arith)) refl
    ]
  where
    or_false : (x : Bool) → (x || false) ≡ x
    or_false true = refl
    or_false false = refl

-- no word
pub no_words : (word : ℕ) (e : Bool) → false ≡ (nat_lt word 0 && e)
no_words word e = rw (le-ltb word 0 (omega arith)) refl

-- a number with the elements of every word is the list's
pub all_words : (big rises : Bool) (bits head : ℕ) (xs : List Bool) (n most : ℕ) → 0 < bits → head < bits → n < 2 ^ most
    → ((j : ℕ) → j < length xs → digit n (digit_place big bits rises head (length xs) j) ≡ (nat_lt ((head + j) / bits) (words_met bits head (length xs)) && element xs j))
    → ((q : ℕ) → length xs ≤ q → digit n q ≡ false) → n ≡ field_number big bits rises head xs
all_words big rises bits head xs n most some in_head small digits past =
    number_of-from_digits (length xs) (digit_place big bits rises head (length xs)) (element xs) n (digit_places bits head (length xs) some in_head big rises) (small_from_digits n most (length xs) small past)
    (λ j h. digits j h ∙ rw (lt-ltb ((head + j) / bits) (words_met bits head (length xs)) (met_word bits head (length xs) j some h)) refl)

-- the number of a list that meets one word, two or three
module _ (big rises : Bool) (bits head : ℕ) (xs : List Bool) (most : ℕ) (some : 0 < bits) (in_head : head < bits) where
  first_word : (a j : ℕ) → j < length xs → IsPlacedPart big bits rises head (length xs) 0 (element xs) a
      → digit a (digit_place big bits rises head (length xs) j) ≡ (nat_lt ((head + j) / bits) 1 && element xs j)
  first_word a j h placed = more_words ((head + j) / bits) 0 (element xs j) false _ _ (no_words ((head + j) / bits) (element xs j)) (placed.digits j h) refl

  pub one_word : (n : ℕ) → n < 2 ^ most → words_met bits head (length xs) ≡ 1 → IsPlacedPart big bits rises head (length xs) 0 (element xs) n → n ≡ field_number big bits rises head xs
  one_word n small one placed =
      all_words big rises bits head xs n most some in_head small
      (λ j h. first_word n j h placed ∙ ap (λ m. nat_lt ((head + j) / bits) m && element xs j) (sym one)) placed.past

  pub two_words : (a b n : ℕ) → n < 2 ^ most → length xs ≤ most → ((q : ℕ) → q < most → digit n q ≡ (digit a q || digit b q)) → words_met bits head (length xs) ≡ 2
      → IsPlacedPart big bits rises head (length xs) 0 (element xs) a → IsPlacedPart big bits rises head (length xs) 1 (element xs) b → n ≡ field_number big bits rises head xs
  two_words a b n small long joined two first second =
      let law = digit_places bits head (length xs) some in_head big rises in
      all_words big rises bits head xs n most some in_head small
      (λ j h.
      let place = digit_place big bits rises head (length xs) j in
      more_words ((head + j) / bits) 1 (element xs j) _ _ _ (first_word a j h first) (second.digits j h) (joined place (omega (arith, law.below j h, long)))
      ∙ ap (λ m. nat_lt ((head + j) / bits) m && element xs j) (sym two))
      (λ q h. elim (cases_lt q most) [
        | inr above ↦ digit_above n most q small above
        | inl below ↦ joined q below ∙ rw (first.past q h, second.past q h) refl
      ])

  pub three_words : (a b c m n : ℕ) → n < 2 ^ most → length xs ≤ most
      → ((q : ℕ) → q < most → digit m q ≡ (digit a q || digit b q)) → ((q : ℕ) → q < most → digit n q ≡ (digit m q || digit c q)) → words_met bits head (length xs) ≡ 3
      → IsPlacedPart big bits rises head (length xs) 0 (element xs) a → IsPlacedPart big bits rises head (length xs) 1 (element xs) b → IsPlacedPart big bits rises head (length xs) 2 (element xs) c
      → n ≡ field_number big bits rises head xs
  three_words a b c m n small long joined more three first second third =
      let law = digit_places bits head (length xs) some in_head big rises in
      all_words big rises bits head xs n most some in_head small
      (λ j h.
      let place = digit_place big bits rises head (length xs) j in
      let inside : digit_place big bits rises head (length xs) j < most = omega (arith, law.below j h, long) in
      let two = more_words ((head + j) / bits) 1 (element xs j) _ _ _ (first_word a j h first) (second.digits j h) (joined place inside) in
      more_words ((head + j) / bits) 2 (element xs j) _ _ _ two (third.digits j h) (more place inside)
      ∙ ap (λ m. nat_lt ((head + j) / bits) m && element xs j) (sym three))
      (λ q h. elim (cases_lt q most) [
        | inr above ↦ digit_above n most q small above
        | inl below ↦ more q below ∙ rw (joined q below, first.past q h, second.past q h, third.past q h) refl
      ])

-- ---- the digits of a list's number

module _ (bits head n : ℕ) (xs : List Bool) (some : 0 < bits) (in_head : head < bits) where
  pub field_digit : (big rises : Bool) → n ≡ field_number big bits rises head xs → (j : ℕ) → j < length xs → digit n (digit_place big bits rises head (length xs) j) ≡ element xs j
  field_digit big rises is j h =
      ap (λ m. digit m (digit_place big bits rises head (length xs) j)) is
      ∙ digit-number_of_at (length xs) (digit_place big bits rises head (length xs)) (element xs) j (digit_places bits head (length xs) some in_head big rises) h

  pub field_below : (big rises : Bool) → n ≡ field_number big bits rises head xs → n < 2 ^ length xs
  field_below big rises is =
      let law = digit_places bits head (length xs) some in_head big rises in
      subst (λ m. m < 2 ^ length xs) (sym is) (number_of_below (length xs) (digit_place big bits rises head (length xs)) (element xs) (length xs) (λ i inside passes. law.below i inside))

  pub field_past : (big rises : Bool) → n ≡ field_number big bits rises head xs → (j : ℕ) → length xs ≤ j → digit n j ≡ false
  field_past big rises is j h =
      let law = digit_places bits head (length xs) some in_head big rises in
      ap (λ m. digit m j) is ∙ digit_above (field_number big bits rises head xs) (length xs) j (number_of_below (length xs) (digit_place big bits rises head (length xs)) (element xs) (length xs) (λ i inside passes. law.below i inside)) h

  pub le_rising : (rises : Bool) → n ≡ field_number false bits rises head xs → rises ≡ true → (j : ℕ) → j < length xs → digit n j ≡ element xs j
  le_rising true is e j h = field_digit false true is j h
  le_rising false is e j h = absurd cc

  pub be_falling : (rises : Bool) → n ≡ field_number true bits rises head xs → rises ≡ false → (j : ℕ) → j < length xs → digit n j ≡ element xs (length xs - 1 - j)
  be_falling false is e j h =
      let back : length xs - 1 - (length xs - 1 - j) ≡ j = omega (arith, h) in
      ap (digit n) (sym back) ∙ field_digit true false is (length xs - 1 - j) (omega (arith, h))
  be_falling true is e j h = absurd cc

-- an option that is not absent
pub some_unless : {A : Type 0} (o : Option A) → (IsNone o → ⊥) → IsSome o
some_unless None h = absurd (h refl)
some_unless (Some x) h = refl
