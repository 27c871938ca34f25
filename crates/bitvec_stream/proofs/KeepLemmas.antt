-- Elements of a list that a word keeps under an order whose positions rise or fall.
use Rattle.std.proofs.Common.{◌≡◌, ℕ, ◌+◌, ◌-◌, ◌*◌, ◌/◌, ◌%◌, ◌^◌, ◌<◌, ◌≤◌, ◌||◌, Bool, false, List, length, take, drop, refl, sym, ap, subst, ◌∙◌, inl, inr, arith, length-drop}
use Rattle.std.specs.Prelude.{⊤, Option, None, Some, MatchOption}
use Rattle.std.proofs.Math.Bool.{Bool-set, or-false}
use Rattle.std.proofs.lemmas.Bool.{cases_lt}
use Rattle.std.proofs.lemmas.List.{length-take-le, get_or-take, get_or-drop}
use Rattle.std.proofs.lemmas.Nat.{div-mul-add, mod-mul-add, mod_below, pow_pos}
use Rattle.bitvec.specs.Digit.{digit}
use Rattle.bitvec.specs.Order.{Rises, Falls}
use Rattle.bitvec.specs.Span.{element}
use Rattle.bitvec.proofs.DigitLemmas.{digit-mod, digit-zero}
use Rattle.bitvec.proofs.MemoryLemmas.{tabulate-from_elements}
use Rattle.bitvec_slice.proofs.DigitListLemmas.{number_le-back}
use Rattle.bitvec_stream.specs.Numbers.{number_le, digits_le}
use Rattle.bitvec_stream.specs.Window.{IsWindow, IsNumberOf, RisesOrFalls, Keeps}
use Rattle.bitvec_stream.proofs.WindowLemmas.{window_moved, window_joined, first_number}

-- positions of a word with more than one digit do not both rise and fall
not_both_ways : (bits : ℕ) (at : ℕ → ℕ) → 1 < bits → Falls bits at → Rises bits at → ⊥
not_both_ways bits at wide falls rises = (let first = falls 0 (omega (arith, wide)) in let same = rises 0 (omega (arith, wide)) in omega (arith, first, same, wide))

-- positions that do not fall rise
pub rises_else : (bits : ℕ) (at : ℕ → ℕ) → RisesOrFalls bits at → (Falls bits at → ⊥) → Rises bits at
rises_else bits at (inl rises) not = rises
rises_else bits at (inr falls) not = absurd (not falls)

-- two proofs that a word keeps elements are one
pub keeps_same : (bits : ℕ) (at : ℕ → ℕ) (xs : List Bool) (place kept w : ℕ) (a b : Keeps bits at xs place kept w) → a ≡ b
keeps_same bits at xs place kept w a b i = record {
  shown = λ j h. Bool-set _ _ (a.shown j h) (b.shown j h) i;
  clean = λ j k h. Bool-set _ _ (a.clean j k h) (b.clean j k h) i;
}

-- the same at other names of the numbers
pub keeps_at : (bits : ℕ) (at : ℕ → ℕ) (xs : List Bool) (p q k l w : ℕ) → p ≡ q → k ≡ l → Keeps bits at xs p k w → Keeps bits at xs q l w
keeps_at bits at xs p q k l w e f is = subst (λ n. Keeps bits at xs n l w) e (subst (λ n. Keeps bits at xs p n w) f is)

-- no elements
pub keeps_none : (bits : ℕ) (at : ℕ → ℕ) (xs : List Bool) (place w : ℕ) → w ≡ 0 → Keeps bits at xs place 0 w
keeps_none bits at xs place w zero_is = record {
  shown = λ j h. absurd (omega (arith, h));
  clean = λ j k h. ap (λ n. digit n (at j)) zero_is ∙ digit-zero (at j);
}

-- `bits` elements, where they are word k of those that a list meets under a head
pub keeps_word : (bits : ℕ) (at : ℕ → ℕ) (head : ℕ) (xs : List Bool) (place k c : ℕ) → head + place ≡ k * bits → place + bits ≤ length xs
    → ((j : ℕ) → j < length xs → (head + j) / bits ≡ k → digit c (at ((head + j) % bits)) ≡ element xs j) → Keeps bits at xs place bits c
keeps_word bits at head xs place k c starts room digits = record {
  shown = λ j h.
      let here : head + (place + j) ≡ k * bits + j = omega (arith, starts) in
      let word : (head + (place + j)) / bits ≡ k = ap (λ n. n / bits) here ∙ div-mul-add k bits j h in
      let index : (head + (place + j)) % bits ≡ j = ap (λ n. n % bits) here ∙ mod-mul-add k bits j h in
      ap (λ i. digit c (at i)) (sym index) ∙ digits (place + j) (omega (arith, h, room)) word;
  clean = λ j k h. absurd (omega (arith, k, h));
}

-- where positions fall, the first is the highest digit
module _ (bits : ℕ) (at : ℕ → ℕ) (xs : List Bool) (place kept w : ℕ) (falls : Falls bits at) (few : kept ≤ bits) where
  pub window_of : Keeps bits at xs place kept w → IsWindow bits xs place kept w
  window_of is = record {
    shown = λ j h. ap (digit w) (sym (falls j (omega (arith, h, few)))) ∙ is.shown j h;
    clean = λ p h.
        let back : bits - 1 - (bits - 1 - p) ≡ p = omega (arith, h) in
        ap (digit w) (sym (falls (bits - 1 - p) (omega (arith, h)) ∙ back)) ∙ is.clean (bits - 1 - p) (omega (arith, h)) (omega (arith, h));
  }

  keeps_of : IsWindow bits xs place kept w → Keeps bits at xs place kept w
  keeps_of is = record {
    shown = λ j h. ap (digit w) (falls j (omega (arith, h, few))) ∙ is.shown j h;
    clean = λ j k h. ap (digit w) (falls j h) ∙ is.clean (bits - 1 - j) (omega (arith, k, h));
  }

-- the first n of them are passed over, where positions fall
pub keeps_up : (bits : ℕ) (at : ℕ → ℕ) (w n r : ℕ) → Falls bits at → ((p : ℕ) → p < n → digit r p ≡ false) → ((p : ℕ) → n + p < bits → digit r (n + p) ≡ digit w p)
    → (xs : List Bool) (place kept : ℕ) → Keeps bits at xs place kept w → n ≤ kept → kept ≤ bits → Keeps bits at xs (place + n) (kept - n) r
keeps_up bits at w n r falls low moved xs place kept is less most =
    keeps_of bits at xs (place + n) (kept - n) r falls (omega (arith, most)) (window_moved bits xs place kept w n r (window_of bits at xs place kept w falls most is) less most low moved)

-- and where they rise
pub keeps_down : (bits : ℕ) (at : ℕ → ℕ) (w n r : ℕ) → Rises bits at → ((p : ℕ) → n + p < bits → digit r p ≡ digit w (n + p)) → ((p : ℕ) → p < bits → bits ≤ n + p → digit r p ≡ false)
    → (xs : List Bool) (place kept : ℕ) → Keeps bits at xs place kept w → n ≤ kept → kept ≤ bits → Keeps bits at xs (place + n) (kept - n) r
keeps_down bits at w n r rises moved high xs place kept is less most = record {
  shown = λ j h.
      let next : place + (n + j) ≡ place + n + j = omega arith in
      let inside : n + j < bits = omega (arith, h, less, most) in
      ap (digit r) (rises j (omega (arith, inside)))
      ∙ moved j inside
      ∙ ap (digit w) (sym (rises (n + j) inside))
      ∙ is.shown (n + j) (omega (arith, h, less))
      ∙ ap (element xs) next;
  clean = λ j k h. ap (digit r) (rises j h) ∙ elim (cases_lt (n + j) bits) [
    | inl inside ↦ moved j inside ∙ ap (digit w) (sym (rises (n + j) inside)) ∙ is.clean (n + j) (omega (arith, k)) inside
    | inr above ↦ high j h above
  ];
}

-- Those of a whole word c are put behind those of w, which make r with it: s is c, moved to where they belong.
module _ (bits : ℕ) (at : ℕ → ℕ) (kept w c s r : ℕ) (less : kept < bits) (both : (p : ℕ) → p < bits → digit r p ≡ (digit w p || digit s p)) where
  -- where positions fall
  pub keeps_below : Falls bits at → ((p : ℕ) → kept + p < bits → digit s p ≡ digit c (kept + p)) → ((p : ℕ) → p < bits → bits ≤ kept + p → digit s p ≡ false)
      → (xs : List Bool) (place : ℕ) → Keeps bits at xs place kept w → Keeps bits at xs (place + kept) bits c → Keeps bits at xs place bits r
  keeps_below falls moved high xs place first second =
      let e : place + kept ≡ place + kept = refl in
      keeps_of bits at xs place bits r falls (omega arith)
      (window_joined bits xs place (place + kept) kept w c s r (window_of bits at xs place kept w falls (omega (arith, less)) first) (window_of bits at xs (place + kept) bits c falls (omega arith) second) e less moved high both)

  -- and where they rise
  pub keeps_above : Rises bits at → ((p : ℕ) → p < kept → digit s p ≡ false) → ((p : ℕ) → kept + p < bits → digit s (kept + p) ≡ digit c p)
      → (xs : List Bool) (place : ℕ) → Keeps bits at xs place kept w → Keeps bits at xs (place + kept) bits c → Keeps bits at xs place bits r
  keeps_above rises low moved xs place first second = record {
    shown = λ j h. ap (digit r) (rises j h) ∙ both j h ∙ elim (cases_lt j kept) [
      | inl kept_is ↦ rw (low j kept_is) (or-false (digit w j)) ∙ ap (digit w) (sym (rises j h)) ∙ first.shown j kept_is
      | inr past ↦ (
          let q : j ≡ kept + (j - kept) = omega (arith, past) in
          let index : place + kept + (j - kept) ≡ place + j = omega (arith, past) in
          let none : digit w j ≡ false = ap (digit w) (sym (rises j h)) ∙ first.clean j past h in
          ap (λ b. b || digit s j) none
          ∙ ap (digit s) q
          ∙ moved (j - kept) (omega (arith, past, h))
          ∙ ap (digit c) (sym (rises (j - kept) (omega (arith, h))))
          ∙ second.shown (j - kept) (omega (arith, h))
          ∙ ap (element xs) index)
    ];
    clean = λ j k h. absurd (omega (arith, k, h));
  }

-- the number m of the first `count`, where positions fall: w without its lowest `down` digits
pub number_falls : (bits : ℕ) (at : ℕ → ℕ) (w count down m : ℕ) → 1 < bits → Falls bits at → down + count ≡ bits → m < 2 ^ bits
    → ((p : ℕ) → down + p < bits → digit m p ≡ digit w (down + p)) → ((p : ℕ) → p < bits → bits ≤ down + p → digit m p ≡ false)
    → (xs : List Bool) (place kept : ℕ) → Keeps bits at xs place kept w → count ≤ kept → kept ≤ bits → place + kept ≤ length xs → IsNumberOf bits at (drop place xs) count m
number_falls bits at w count down m wide falls room below moved high xs place kept is less most long = record {
  falls = λ f. first_number bits w count down m room below moved high xs place kept (window_of bits at xs place kept w f most is) less long;
  rises = λ rises. absurd (not_both_ways bits at wide falls rises);
}

-- and where they do not: its lowest digits
pub number_rises : (bits : ℕ) (at : ℕ → ℕ) (w count m : ℕ) → (Falls bits at → ⊥) → m ≡ w % 2 ^ count
    → (xs : List Bool) (place kept : ℕ) → Keeps bits at xs place kept w → count ≤ kept → kept ≤ bits → place + kept ≤ length xs → IsNumberOf bits at (drop place xs) count m
number_rises bits at w count m not is_low xs place kept is less most long = record {
  falls = λ f. absurd (not f);
  rises = λ rises.
      let ys = take count (drop place xs) in
      let many : length ys ≡ count = length-take-le count (drop place xs) (omega (arith, less, long, length-drop place xs)) in
      let shown : ys ≡ digits_le count m = tabulate-from_elements ys count (λ j. digit m j) false many (λ j h.
      get_or-take count (drop place xs) j false h
      ∙ get_or-drop place xs j false
      ∙ sym (is.shown j (omega (arith, h, less)))
      ∙ ap (digit w) (rises j (omega (arith, h, less, most)))
      ∙ sym (ap (λ n. digit n j) is_low ∙ digit-mod w count j h)) in
      let small : m < 2 ^ count = omega (arith, is_low, mod_below w (2 ^ count) (pow_pos count)) in
      sym (ap number_le shown ∙ number_le-back count m small);
}

-- what is some is more than was said of it
pub some_then : {T : Type 0} (P Q : T → Type 0) (o : Option T) → ((v : T) → P v → Q v) → MatchOption o ⊤ P → MatchOption o ⊤ Q
some_then P Q None then h = tt
some_then P Q (Some v) then h = then v h
