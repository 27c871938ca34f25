-- Numbers stored with their digits in order, in one word or in two. `bits` is the width of a word.
use Rattle.std.proofs.Common.{◌≡◌, ℕ, ◌+◌, ◌-◌, ◌*◌, ◌/◌, ◌%◌, ◌^◌, ◌<◌, ◌≤◌, ◌&&◌, Bool, true, false, not, ◌||◌, if◌then◌else◌, nat_le, nat_lt, refl, sym, ap, ◌∙◌, inl, inr, arith}
use Rattle.std.proofs.lemmas.Bool.{false≢true, cases_lt, lt-ltb, le-ltb, le-leb, lt-leb}
use Rattle.std.proofs.lemmas.Nat.{div-add-mod', mod_below}
use Rattle.bitvec.specs.Digit.{digit}
use Rattle.std.proofs.Math.Nat.{div-eq_of_lt}
use Rattle.bitvec.specs.Place.{words_met}
use Rattle.bitvec.specs.Span.{element}
use Rattle.bitvec.proofs.DigitLemmas.{digit_above}
use Rattle.bitvec.proofs.MemoryLemmas.{get_or-tabulate}
use Rattle.bitvec.proofs.PlaceLemmas.{met_more}
use Rattle.bitvec_slice.specs.Field.{IsSequential, digit_place, field_list}
use Rattle.bitvec_slice.specs.Words.{digit_from}
use Rattle.bitvec_slice.proofs.FieldLemmas.{digit_places}

-- ---- a word's digits moved into the first word, and into the second

-- r has the digits of w, moved up
abbrev pub IsUp : ℕ → ℕ → ℕ → ℕ → Type 0
IsUp bits up w r = ((p : ℕ) → p < up → digit r p ≡ false) × ((p : ℕ) → up + p < bits → digit r (up + p) ≡ digit w p)

-- r has the digits of w, moved down
abbrev pub IsDown : ℕ → ℕ → ℕ → ℕ → Type 0
IsDown bits down w r = ((p : ℕ) → down + p < bits → digit r p ≡ digit w (down + p)) × ((p : ℕ) → p < bits → bits ≤ down + p → digit r p ≡ false)

-- digit p of w moved down, also where it has none there
down_digit : (bits down w r p q : ℕ) → w < 2 ^ bits → IsDown bits down w r → p < bits → q ≡ down + p → digit r p ≡ digit w q
down_digit bits down w r p q small is h e =
    elim (cases_lt (down + p) bits) [
      | inl inside ↦ (is.0 p inside ∙ ap (digit w) (sym e))
      | inr past ↦ (is.1 p h past ∙ sym (digit_above w bits q small (omega (arith, e, past))))
    ]

module _ (bits head len : ℕ) (at : ℕ → ℕ) (w r by : ℕ) where
  pub first_rising : (rises : Bool) → rises ≡ true → IsSequential bits rises at → by ≡ head → IsUp bits by w r → (i : ℕ) → i < bits → digit r (at i) ≡ digit_from rises head len w i
  first_rising true e law is up i h =
      ap (digit r) (law.positions i h)
      ∙ elim (cases_lt i head) [
        | inl before ↦ (up.0 i (omega (arith, is, before)) ∙ rw (lt-leb head i before) refl)
        | inr from ↦ (
            let place : i ≡ by + (i - head) = omega (arith, is, from) in
            ap (digit r) place ∙ up.1 (i - head) (omega (arith, is, from, h)) ∙ rw (le-leb head i from) refl)
      ]
  first_rising false e law is up i h = absurd cc

  pub first_falling : (rises : Bool) → rises ≡ false → IsSequential bits rises at → head + len ≤ bits → by ≡ bits - (head + len) → IsUp bits by w r
      → (i : ℕ) → i < bits → digit r (at i) ≡ digit_from rises head len w i
  first_falling false e law within is up i h =
      ap (digit r) (law.positions i h)
      ∙ elim (cases_lt i (head + len)) [
        | inl before ↦ (
            let place : bits - 1 - i ≡ by + (head + len - 1 - i) = omega (arith, is, before, within) in
            ap (digit r) place ∙ up.1 (head + len - 1 - i) (omega (arith, is, before, within)) ∙ rw (lt-ltb i (head + len) before) refl)
        | inr from ↦ (up.0 (bits - 1 - i) (omega (arith, is, from, within, h)) ∙ rw (le-ltb i (head + len) from) refl)
      ]
  first_falling true e law within is up i h = absurd cc

  pub first_of_two : (rises : Bool) → rises ≡ false → IsSequential bits rises at → w < 2 ^ bits → bits < head + len → by ≡ head + len - bits → IsDown bits by w r
      → (i : ℕ) → i < bits → digit r (at i) ≡ digit_from rises head len w i
  first_of_two false e law small over is down i h =
      ap (digit r) (law.positions i h)
      ∙ down_digit bits by w r (bits - 1 - i) (head + len - 1 - i) small down (omega (arith, h)) (omega (arith, is, over, h))
      ∙ rw (lt-ltb i (head + len) (omega (arith, h, over))) refl
  first_of_two true e law small over is down i h = absurd cc

  pub second_rising : (rises : Bool) → rises ≡ true → IsSequential bits rises at → w < 2 ^ bits → head < bits → by ≡ bits - head → IsDown bits by w r
      → (i : ℕ) → i < bits → digit r (at i) ≡ digit_from rises head len w (bits + i)
  second_rising true e law small in_head is down i h =
      ap (digit r) (law.positions i h)
      ∙ down_digit bits by w r i (bits + i - head) small down h (omega (arith, is, in_head))
      ∙ rw (le-leb head (bits + i) (omega (arith, in_head))) refl
  second_rising false e law small in_head is down i h = absurd cc

  pub second_falling : (rises : Bool) → rises ≡ false → IsSequential bits rises at → head < bits → len ≤ bits → bits < head + len → by ≡ bits - (head + len - bits) → IsUp bits by w r
      → (i : ℕ) → i < bits → digit r (at i) ≡ digit_from rises head len w (bits + i)
  second_falling false e law in_head near over is up i h =
      ap (digit r) (law.positions i h)
      ∙ elim (cases_lt (bits + i) (head + len)) [
        | inl before ↦ (
            let place : bits - 1 - i ≡ by + (head + len - 1 - (bits + i)) = omega (arith, is, before, over, in_head, near) in
            ap (digit r) place ∙ up.1 (head + len - 1 - (bits + i)) (omega (arith, is, before, over, in_head, near)) ∙ rw (lt-ltb (bits + i) (head + len) before) refl)
        | inr from ↦ (up.0 (bits - 1 - i) (omega (arith, is, from, over, in_head, near, h)) ∙ rw (le-ltb (bits + i) (head + len) from) refl)
      ]
  second_falling true e law in_head near over is up i h = absurd cc

-- ---- what a word has of a span

-- the digits that it has are those of the list's places
pub near_digit : (bits head len : ℕ) (at : ℕ → ℕ) (rises : Bool) (w r k : ℕ) → 0 < bits → ((i : ℕ) → i < bits → digit r (at i) ≡ digit_from rises head len w (k * bits + i))
    → (j : ℕ) → j < len → (head + j) / bits ≡ k → digit r (at ((head + j) % bits)) ≡ digit w (digit_place (not rises) bits rises head len j)
near_digit bits head len at rises w r k some is j h word =
    let product : (head + j) / bits * bits ≡ k * bits = ap (λ n. n * bits) word in
    let place : k * bits + (head + j) % bits ≡ head + j = omega (arith, product, div-add-mod' (head + j) bits) in
    is ((head + j) % bits) (mod_below (head + j) bits some) ∙ ap (digit_from rises head len w) place ∙ there rises
  where
    there : (rises : Bool) → digit_from rises head len w (head + j) ≡ digit w (digit_place (not rises) bits rises head len j)
    there true = rw (le-leb head (head + j) (omega arith)) (ap (digit w) (let e : head + j - head ≡ j = omega arith in e))
    there false = rw (lt-ltb (head + j) (head + len) (omega (arith, h))) (ap (digit w) (let e : head + len - 1 - (head + j) ≡ len - 1 - j = omega arith in e))

-- and so are elements of a number's list, where w has as many of the number's low digits
pub near_stored : (bits head len : ℕ) (at : ℕ → ℕ) (rises : Bool) (v w r k : ℕ) → 0 < bits → head < bits → ((p : ℕ) → p < len → digit w p ≡ digit v p)
    → ((i : ℕ) → i < bits → digit r (at i) ≡ digit_from rises head len w (k * bits + i))
    → (j : ℕ) → j < len → (head + j) / bits ≡ k → digit r (at ((head + j) % bits)) ≡ element (field_list (not rises) bits rises head len v) j
near_stored bits head len at rises v w r k some in_head low is j h word =
    let law = digit_places bits head len some in_head (not rises) rises in
    near_digit bits head len at rises w r k some is j h word
    ∙ low (digit_place (not rises) bits rises head len j) (law.below j h)
    ∙ sym (get_or-tabulate len (λ i. digit v (digit_place (not rises) bits rises head len i)) j false h)

-- the digits d of w that are digits of `ones`, which has `len` ones
pub near_low : (bits len v w ones d : ℕ) → len ≤ bits → ((p : ℕ) → p < bits → digit w p ≡ digit v p) → ((p : ℕ) → p < bits → digit ones p ≡ nat_lt p len)
    → ((p : ℕ) → p < bits → digit d p ≡ (digit w p && digit ones p)) → (p : ℕ) → p < len → digit d p ≡ digit v p
near_low bits len v w ones d near low some both p h =
    let inside : p < bits = omega (arith, h, near) in
    both p inside ∙ rw (some p inside, lt-ltb p len h) (and_true (digit w p)) ∙ low p inside
  where
    and_true : (x : Bool) → (x && true) ≡ x
    and_true true = refl
    and_true false = refl

-- moved as these are, they lie beside none of them
pub near_within : (bits head len : ℕ) (rises : Bool) (w ones d m : ℕ) → d < 2 ^ bits → ((p : ℕ) → p < bits → digit d p ≡ (digit w p && digit ones p))
    → digit_from rises head len ones m ≡ false → digit_from rises head len d m ≡ false
near_within bits head len rises w ones d m small both none = there rises none
  where
    and_false : (x : Bool) → (x && false) ≡ false
    and_false true = refl
    and_false false = refl

    neither : (a b c : Bool) → (b ≡ false → c ≡ false) → (a && b) ≡ false → (a && c) ≡ false
    neither true b c only e = only e
    neither false b c only e = refl

    only : (p : ℕ) → digit ones p ≡ false → digit d p ≡ false
    only p e = elim (cases_lt p bits) [
      | inl inside ↦ (both p inside ∙ rw e (and_false (digit w p)))
      | inr past ↦ digit_above d bits p small past
    ]

    there : (rises : Bool) → digit_from rises head len ones m ≡ false → digit_from rises head len d m ≡ false
    there true e = neither (nat_le head m) (digit ones (m - head)) (digit d (m - head)) (only (m - head)) e
    there false e = neither (nat_lt m (head + len)) (digit ones (head + len - 1 - m)) (digit d (head + len - 1 - m)) (only (head + len - 1 - m)) e

-- a span of at most a word's bits that passes its first word meets two
pub met_two : (bits head len : ℕ) → head < bits → len ≤ bits → bits < head + len → 2 ≡ words_met bits head len
met_two bits head len in_head near over =
    let few : len - (bits - head) - 1 < bits = omega arith in
    sym (met_more bits head len in_head over ∙ ap (λ n. n + 2) (div-eq_of_lt few))

-- `len` ones have the mask of the span's places
pub near_mask : (bits head len : ℕ) (at : ℕ → ℕ) (rises : Bool) (w r k : ℕ) → len ≤ bits → w < 2 ^ bits → ((p : ℕ) → p < bits → digit w p ≡ nat_lt p len)
    → ((i : ℕ) → i < bits → digit r (at i) ≡ digit_from rises head len w (k * bits + i))
    → (i : ℕ) → i < bits → digit r (at i) ≡ (nat_le head (k * bits + i) && nat_lt (k * bits + i) (head + len))
near_mask bits head len at rises w r k near small ones is i h = is i h ∙ there rises (k * bits + i)
  where
    low : (p : ℕ) → digit w p ≡ nat_lt p len
    low p = elim (cases_lt p bits) [
      | inl inside ↦ ones p inside
      | inr past ↦ (digit_above w bits p small past ∙ rw (le-ltb p len (omega (arith, past, near))) refl)
    ]

    there : (rises : Bool) (m : ℕ) → digit_from rises head len w m ≡ (nat_le head m && nat_lt m (head + len))
    there true m = elim (cases_lt m head) [
      | inl before ↦ rw (lt-leb head m before) refl
      | inr from ↦ rw (le-leb head m from) (low (m - head) ∙ elim (cases_lt m (head + len)) [
        | inl within ↦ rw (lt-ltb m (head + len) within, lt-ltb (m - head) len (omega (arith, within, from))) refl
        | inr past ↦ rw (le-ltb m (head + len) past, le-ltb (m - head) len (omega (arith, past))) refl
      ])
    ]
    there false m = elim (cases_lt m (head + len)) [
      | inl within ↦ rw (lt-ltb m (head + len) within) (low (head + len - 1 - m) ∙ elim (cases_lt m head) [
        | inl before ↦ rw (lt-leb head m before, le-ltb (head + len - 1 - m) len (omega (arith, before))) refl
        | inr from ↦ rw (le-leb head m from, lt-ltb (head + len - 1 - m) len (omega (arith, from, within))) refl
      ])
      | inr past ↦ rw (le-ltb m (head + len) past, le-leb head m (omega (arith, past))) refl
    ]

-- ---- a word put in its places

-- a word whose ones are all a mask's, in place of what another has there
pub mixed_within : (old word mask keep new : Bool) (test : Bool) → mask ≡ test → (mask ≡ false → word ≡ false) → keep ≡ (old && not mask) → new ≡ (keep || word)
    → new ≡ (if test then word else old)
mixed_within old word mask keep new test e only k n = n ∙ rw (k, e) (both old word test (λ f. only (e ∙ f)))
  where
    both : (old word test : Bool) → (test ≡ false → word ≡ false) → ((old && not test) || word) ≡ (if test then word else old)
    both true true true only = refl
    both true true false only = refl
    both true false true only = refl
    both true false false only = refl
    both false true true only = refl
    both false true false only = absurd (false≢true (sym (only refl)))
    both false false true only = refl
    both false false false only = refl
