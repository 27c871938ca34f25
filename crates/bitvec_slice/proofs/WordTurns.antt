-- A word's digits in the opposite order, found in steps: in each, neighbouring stretches of digits are exchanged. And words in the opposite order.
use Rattle.std.proofs.Common.{◌≡◌, ℕ, zero, suc, ◌+◌, ◌-◌, ◌*◌, ◌/◌, ◌%◌, ◌^◌, ◌<◌, ◌≤◌, ◌⊎◌, ◌==◌, Bool, true, false, List, [], ◌∷◌, ◌++◌, length, get_or, map, refl, sym, ap, subst, ◌∙◌, inl, inr, arith}
use Rattle.std.specs.Prelude.{slice_set, reverse}
use Rattle.std.proofs.Math.ListN.{length-set}
use Rattle.std.proofs.Math.Nat.{mul-le-mul_right, pow-suc}
use Rattle.std.proofs.lemmas.Bool.{cases_lt, cases_eq, eq-eqb, ne_eqb}
use Rattle.std.proofs.lemmas.List.{get_or-reverse, get_or-set_same, get_or-set_other, length-map, length-reverse, map-append, reverse-append}
use Rattle.std.proofs.lemmas.Nat.{div-add-mod', div-mul-add, mod-mul-add, mod_below, pow_pos, row_fits}
use Rattle.bitvec.specs.Digit.{digit, exclusive_or}
use Rattle.bitvec.proofs.DigitLemmas.{digit_all}
use Rattle.bitvec_slice.specs.Turns.{TurnsWords}

-- the place of a digit where the stretches of `width` digits are in the opposite order, each in its own
abbrev pub turned_place : ℕ → ℕ → ℕ → ℕ
turned_place bits width p = bits - width - p / width * width + p % width

-- the place lies in a stretch with an even number
abbrev pub lies_even : ℕ → ℕ → Bool
lies_even width p = p / width % 2 == 0

-- The stretches of `width` digits of `word` are in the opposite order in `value`, and `mask` has those with even numbers.
pub record IsTurnedTo (bits width word mask value : ℕ) : Type 0 where
  pub count : ℕ
  pub whole : bits ≡ count * width
  pub exponent : ℕ
  pub power : width ≡ 2 ^ exponent
  pub marks : (p : ℕ) → p < bits → digit mask p ≡ lies_even width p
  pub turned : (p : ℕ) → p < bits → digit value p ≡ digit word (turned_place bits width p)

-- of two neighbours one is even
one_even : (b : ℕ) → exclusive_or ((b + 1) % 2 == 0) (b % 2 == 0) ≡ true
one_even b = elim (cases_eq (b % 2) 0) [
  | inl even ↦ rw (eq-eqb (b % 2) 0 even, ne_eqb ((b + 1) % 2) 0 (omega arith)) refl
  | inr odd ↦ rw (ne_eqb (b % 2) 0 odd, eq-eqb ((b + 1) % 2) 0 (omega arith)) refl
]

-- no value differs from itself
none_alone : (b : Bool) → exclusive_or b b ≡ false
none_alone true = refl
none_alone false = refl

-- only one is given where the other is not
given_alone : (b : Bool) → exclusive_or b false ≡ b
given_alone true = refl
given_alone false = refl

-- a place in a stretch with an even number, or with an odd one
pub even_or_odd : (n : ℕ) → ((a : ℕ) × (n ≡ a + a)) ⊎ ((a : ℕ) × (n ≡ a + a + 1))
even_or_odd n = elim (cases_eq (n % 2) 0) [
  | inl even ↦ inl (n / 2, omega arith)
  | inr odd ↦ inr (n / 2, omega arith)
]

-- a power of two above 1 is twice a power of two
pub halves : (width exponent : ℕ) → width ≡ 2 ^ exponent → 1 < width → (width ≡ width / 2 + width / 2) × (e : ℕ) × (width / 2 ≡ 2 ^ e)
halves width zero power more = absurd (omega (arith, power))
halves width (suc e) power more =
    let double : width ≡ 2 ^ e * 2 = power ∙ pow-suc 2 e in
    (omega (arith, double), e, omega (arith, double))

-- One step: `h` is half of the width, the new mask is the old one where it differs from itself moved up, and of the new
-- value the digits in the mask come from above and the others from below.
pub record IsStepped (bits h mask value new_mask new_value : ℕ) : Type 0 where
  pub low : (p : ℕ) → p < h → p < bits → digit new_mask p ≡ exclusive_or (digit mask p) false
  pub high : (p : ℕ) → h + p < bits → digit new_mask (h + p) ≡ exclusive_or (digit mask (h + p)) (digit mask p)
  pub from_above : (p : ℕ) → h + p < bits → digit new_mask p ≡ true → digit new_value p ≡ digit value (h + p)
  pub from_below : (p : ℕ) → h + p < bits → digit new_mask (h + p) ≡ false → digit new_value (h + p) ≡ digit value p

module _ (bits h word mask value new_mask new_value : ℕ) (some : 0 < h) (now : IsTurnedTo bits (h + h) word mask value) (step : IsStepped bits h mask value new_mask new_value) where
  -- the even stretch a of the old width has the stretches a + a and a + a + 1 of the new one, and ends within the word
  ends : (a s : ℕ) → s < h → a * (h + h) + s < bits → a * (h + h) + (h + h) ≤ bits
  ends a s small inside =
      let all = now.whole in
      let below : a < now.count = elim (cases_lt a now.count) [
        | inl less ↦ less
        | inr most ↦ absurd (omega (arith, inside, all, mul-le-mul_right (h + h) most))
      ] in
      omega (arith, all, row_fits a (h + h) now.count (h + h) below (omega arith))

  place_even : (a s : ℕ) → (a + a) * h + s ≡ a * (h + h) + s
  place_even a s = omega arith

  place_odd : (a s : ℕ) → (a + a + 1) * h + s ≡ h + (a * (h + h) + s)
  place_odd a s = omega arith

  old_even : (a s : ℕ) → s < h + h → a * (h + h) + s < bits → digit mask (a * (h + h) + s) ≡ (a % 2 == 0)
  old_even a s small inside = now.marks (a * (h + h) + s) inside ∙ ap (λ n. n % 2 == 0) (div-mul-add a (h + h) s small)

  marks_low : (a s : ℕ) → s < h → a * (h + h) + s < bits → digit new_mask (a * (h + h) + s) ≡ true
  marks_low zero s small inside =
      let none : 0 * (h + h) + s ≡ s = omega arith in
      ap (digit new_mask) none
      ∙ step.low s small (omega (arith, none, inside))
      ∙ given_alone (digit mask s)
      ∙ ap (digit mask) (sym none)
      ∙ old_even 0 s (omega (arith, small)) inside
  marks_low (suc b) s small inside =
      let before : ℕ = b * (h + h) + (h + s) in
      let same : suc b * (h + h) + s ≡ h + before = omega arith in
      let up : h + before < bits = omega (arith, same, inside) in
      ap (digit new_mask) same
      ∙ step.high before up
      ∙ (λ m. exclusive_or ((ap (digit mask) (sym same) ∙ old_even (suc b) s (omega (arith, small)) inside ∙ ap (λ n. n % 2 == 0) (let e : suc b ≡ b + 1 = omega arith in e)) m) (old_even b (h + s) (omega (arith, small)) (omega (arith, up)) m))
      ∙ one_even b

  marks_high : (a s : ℕ) → s < h → h + (a * (h + h) + s) < bits → digit new_mask (h + (a * (h + h) + s)) ≡ false
  marks_high a s small inside =
      let same : h + (a * (h + h) + s) ≡ a * (h + h) + (h + s) = omega arith in
      step.high (a * (h + h) + s) inside
      ∙ (λ m. exclusive_or ((ap (digit mask) same ∙ old_even a (h + s) (omega (arith, small)) (omega (arith, same, inside))) m) (old_even a s (omega (arith, small)) (omega (arith, inside)) m))
      ∙ none_alone (a % 2 == 0)

  turned_low : (a s : ℕ) → s < h → a * (h + h) + s < bits → digit new_value (a * (h + h) + s) ≡ digit word (bits - h - (a + a) * h + s)
  turned_low a s small inside =
      let room = ends a s small inside in
      let same : h + (a * (h + h) + s) ≡ a * (h + h) + (h + s) = omega arith in
      let up : h + (a * (h + h) + s) < bits = omega (arith, room, small) in
      step.from_above (a * (h + h) + s) up (marks_low a s small inside)
      ∙ now.turned (h + (a * (h + h) + s)) up
      ∙ ap (digit word) (ap (turned_place bits (h + h)) same
      ∙ (λ m. bits - (h + h) - div-mul-add a (h + h) (h + s) (omega (arith, small)) m * (h + h) + mod-mul-add a (h + h) (h + s) (omega (arith, small)) m)
      ∙ omega (arith, room))

  turned_high : (a s : ℕ) → s < h → h + (a * (h + h) + s) < bits → digit new_value (h + (a * (h + h) + s)) ≡ digit word (bits - h - (a + a + 1) * h + s)
  turned_high a s small inside =
      let room = ends a s small (omega (arith, inside)) in
      step.from_below (a * (h + h) + s) inside (marks_high a s small inside)
      ∙ now.turned (a * (h + h) + s) (omega (arith, inside))
      ∙ ap (digit word) ((λ m. bits - (h + h) - div-mul-add a (h + h) s (omega (arith, small)) m * (h + h) + mod-mul-add a (h + h) s (omega (arith, small)) m)
      ∙ omega (arith, room))

  marks_at : (q s p : ℕ) → s < h → p ≡ q * h + s → p < bits → digit new_mask p ≡ (q % 2 == 0)
  marks_at q s p small is inside = elim (even_or_odd q) [
    | inl even ↦ (
        let same : p ≡ even.0 * (h + h) + s = is ∙ ap (λ n. n * h + s) even.1 ∙ place_even even.0 s in
        ap (digit new_mask) same ∙ marks_low even.0 s small (omega (arith, same, inside)) ∙ sym (eq-eqb (q % 2) 0 (omega (arith, even.1))))
    | inr odd ↦ (
        let same : p ≡ h + (odd.0 * (h + h) + s) = is ∙ ap (λ n. n * h + s) odd.1 ∙ place_odd odd.0 s in
        ap (digit new_mask) same ∙ marks_high odd.0 s small (omega (arith, same, inside)) ∙ sym (ne_eqb (q % 2) 0 (omega (arith, odd.1))))
  ]

  turned_at : (q s p : ℕ) → s < h → p ≡ q * h + s → p < bits → digit new_value p ≡ digit word (bits - h - q * h + s)
  turned_at q s p small is inside = elim (even_or_odd q) [
    | inl even ↦ (
        let same : p ≡ even.0 * (h + h) + s = is ∙ ap (λ n. n * h + s) even.1 ∙ place_even even.0 s in
        ap (digit new_value) same ∙ turned_low even.0 s small (omega (arith, same, inside)) ∙ ap (λ n. digit word (bits - h - n * h + s)) (sym even.1))
    | inr odd ↦ (
        let same : p ≡ h + (odd.0 * (h + h) + s) = is ∙ ap (λ n. n * h + s) odd.1 ∙ place_odd odd.0 s in
        ap (digit new_value) same ∙ turned_high odd.0 s small (omega (arith, same, inside)) ∙ ap (λ n. digit word (bits - h - n * h + s)) (sym odd.1))
  ]

-- a step halves the stretches
pub turned_more : (bits width h word mask value new_mask new_value : ℕ) → width ≡ h + h → (e : ℕ) × (h ≡ 2 ^ e)
    → IsTurnedTo bits width word mask value → IsStepped bits h mask value new_mask new_value
    → IsTurnedTo bits h word new_mask new_value
turned_more bits width h word mask value new_mask new_value double power before step =
    let some : 0 < h = omega (arith, power.1, pow_pos power.0) in
    let now : IsTurnedTo bits (h + h) word mask value = subst (λ w. IsTurnedTo bits w word mask value) double before in
    record {
      count = now.count + now.count;
      whole = now.whole ∙ omega arith;
      exponent = power.0;
      power = power.1;
      marks = λ p inside. marks_at bits h word mask value new_mask new_value some now step (p / h) (p % h) p (mod_below p h some) (sym (div-add-mod' p h)) inside;
      turned = λ p inside. turned_at bits h word mask value new_mask new_value some now step (p / h) (p % h) p (mod_below p h some) (sym (div-add-mod' p h)) inside;
    }

-- a number below the divisor
quotient_none : (bits p : ℕ) → p < bits → p / bits ≡ 0
quotient_none bits p inside = ap (λ n. n / bits) (let e : p ≡ 0 * bits + p = omega arith in e) ∙ div-mul-add 0 bits p inside

rest_all : (bits p : ℕ) → p < bits → p % bits ≡ p
rest_all bits p inside = ap (λ n. n % bits) (let e : p ≡ 0 * bits + p = omega arith in e) ∙ mod-mul-add 0 bits p inside

-- the whole word is one stretch
pub turned_none : (bits exponent word mask : ℕ) → bits ≡ 2 ^ exponent → mask ≡ 2 ^ bits - 1 → IsTurnedTo bits bits word mask word
turned_none bits exponent word mask power all = record {
  count = 1;
  whole = omega arith;
  exponent = exponent;
  power = power;
  marks = λ p inside. ap (λ n. digit n p) all ∙ digit_all bits p inside ∙ sym (ap (λ n. n % 2 == 0) (quotient_none bits p inside));
  turned = λ p inside. ap (digit word) (sym ((λ m. bits - bits - quotient_none bits p inside m * bits + rest_all bits p inside m) ∙ omega arith));
}

-- once the stretches are single digits, the word is turned
pub turned_all : (bits width word mask value : ℕ) → width ≤ 1 → IsTurnedTo bits width word mask value → (p : ℕ) → p < bits → digit value p ≡ digit word (bits - 1 - p)
turned_all bits width word mask value least done p inside =
    let some = pow_pos done.exponent in
    let one : width ≡ 1 = omega (arith, done.power, least, some) in
    done.turned p inside ∙ ap (digit word) (ap (λ w. turned_place bits w p) one ∙ omega arith)

-- Of the words in the opposite order, those before number i have their digits in the opposite order too.
pub record IsTurnedUpto (bits : ℕ) (old now : List ℕ) (i : ℕ) : Type 0 where
  pub words : length now ≡ length old
  pub done : (k p : ℕ) → k < i → k < length old → p < bits → digit (get_or now k 0) p ≡ digit (get_or old (length old - 1 - k) 0) (bits - 1 - p)
  pub rest : (k : ℕ) → i ≤ k → k < length old → get_or now k 0 ≡ get_or old (length old - 1 - k) 0

-- the numbers of words in the opposite order
map-reverse : {V W : Type 0} (f : V → W) (xs : List V) → map f (reverse xs) ≡ reverse (map f xs)
map-reverse f [] = refl
map-reverse f (x ∷ xs) =
    ap (map f) (reverse-append (x ∷ []) xs)
    ∙ map-append f (reverse xs) (x ∷ [])
    ∙ ap (λ ys. ys ++ (f x ∷ [])) (map-reverse f xs)
    ∙ sym (reverse-append (f x ∷ []) (map f xs))

-- no word yet
pub words_none : {W : Type 0} (number : W → ℕ) (bits : ℕ) (old now : List W) → now ≡ reverse old → IsTurnedUpto bits (map number old) (map number now) 0
words_none number bits old now is =
    let long = length-map old number in
    record {
      words = length-map now number ∙ ap length is ∙ length-reverse old ∙ sym long;
      done = λ k p less inside small. absurd (omega (arith, less));
      rest = λ k from inside.
          ap (λ (ns : List ℕ). get_or ns k 0) (ap (map number) is ∙ map-reverse number old)
          ∙ get_or-reverse (map number old) k 0 inside;
    }

-- one word more
pub words_more : (bits : ℕ) (old now next : List ℕ) (i word : ℕ) → i < length now → next ≡ slice_set now i word
    → ((p : ℕ) → p < bits → digit word p ≡ digit (get_or now i 0) (bits - 1 - p))
    → IsTurnedUpto bits old now i → IsTurnedUpto bits old next (i + 1)
words_more bits old now next i word h is digits before = record {
  words = ap length is ∙ length-set now i word ∙ before.words;
  done =
      λ k p less inside small.
      ap (λ (ns : List ℕ). digit (get_or ns k 0) p) is
      ∙ elim (cases_eq k i) [
        | inl here ↦ (
            ap (λ n. digit (get_or (slice_set now i word) n 0) p) here
            ∙ ap (λ w. digit w p) (get_or-set_same now i word 0 h)
            ∙ digits p small
            ∙ ap (λ w. digit w (bits - 1 - p)) (ap (λ n. get_or now n 0) (sym here) ∙ before.rest k (omega (arith, here)) inside))
        | inr other ↦ (
            ap (λ w. digit w p) (get_or-set_other now i k word 0 other)
            ∙ before.done k p (omega (arith, less, other)) inside small)
      ];
  rest =
      λ k from inside.
      ap (λ (ns : List ℕ). get_or ns k 0) is
      ∙ get_or-set_other now i k word 0 (λ e. omega (arith, e, from))
      ∙ before.rest k (omega (arith, from)) inside;
}

-- all words
pub words_all : (bits : ℕ) (old now : List ℕ) (n : ℕ) → length old ≤ n → IsTurnedUpto bits old now n → TurnsWords bits old now
words_all bits old now n most done = record {
  words = done.words;
  digits = λ k p inside small. done.done k p (omega (arith, inside, most)) inside small;
}
