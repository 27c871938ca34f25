-- A memory with lists put in the places of disjoint spans: there is one, and this is it.
use Rattle.std.proofs.Common.{◌≡◌, ◌⊎◌, ℕ, zero, suc, ◌+◌, ◌-◌, ◌*◌, ◌/◌, ◌%◌, ◌<◌, ◌≤◌, Bool, true, false, ◌&&◌, nat_le, nat_lt, if◌then◌else◌, List, [], ◌∷◌, length, sym, subst, ◌∙◌, ap, Some, refl, inl, inr, arith}
use Rattle.std.specs.Prelude.{slice_get, pos, nat_abs}
use Rattle.std.proofs.Math.Nat.{div-lt_iff_lt-mul}
use Rattle.std.proofs.lemmas.Bool.{cases_lt, cases_eq, le-leb, lt-leb, lt-ltb, le-ltb}
use Rattle.std.proofs.lemmas.List.{get_or_past}
use Rattle.std.proofs.lemmas.Nat.{div-add-mod', le-div, mod_below}
use Rattle.std.proofs.lemmas.Option.{none-some, same_Some}
use Rattle.bitvec_mem.specs.Digit.{digit}
use Rattle.bitvec_order.specs.Order.{number_of, IsOneToOne}
use Rattle.bitvec_order.proofs.IndexLemmas.{digit-number_of_at}
use Rattle.bitvec_ptr.specs.Memory.{tabulate, bit_of}
use Rattle.bitvec_ptr.proofs.MemoryLemmas.{get_or-tabulate, length-tabulate, tabulate-from_elements}
use Rattle.bitvec_span.specs.Span.{Span, Covers, Fits, element}
use Rattle.bitvec_span.proofs.BecomesLemmas.{list-kept}
use Rattle.bitvec_span.proofs.CoverLemmas.{covers-own}
use Rattle.bitvec.specs.Run.{CanRun, IsPlaced, IsOutside}
use Rattle.bitvec.proofs.RequestLemmas.{fits_at, apart_at}
use Rattle.bitvec.proofs.TurnLemmas.{place_within}

-- a place from `a` on is one of n, or it is not
holds_cases : (a n place : ℕ) → ((a ≤ place) × (place < a + n) × ((nat_le a place && nat_lt place (a + n)) ≡ true)) ⊎ ((a ≤ place → place < a + n → ⊥) × ((nat_le a place && nat_lt place (a + n)) ≡ false))
holds_cases a n place =
    elim (cases_lt place a) [
      | inl before ↦ inr (λ from upto. omega (arith, before, from), (rw (lt-leb a place before) refl))
      | inr from ↦ elim (cases_lt place (a + n)) [
        | inl upto ↦ inl (from, upto, (rw (le-leb a place from, lt-ltb place (a + n) upto) refl))
        | inr past ↦ inr (λ _ upto. omega (arith, past, upto), (rw (le-leb a place from, le-ltb place (a + n) past) refl))
      ]
    ]

-- a place among a span's is covered by it
covers_at : (bits : ℕ) (span : Span) (words place : ℕ) → Fits bits span words → nat_abs span.word * bits + span.head ≤ place → place < nat_abs span.word * bits + span.head + span.len → Covers bits span (pos place)
covers_at bits span words place fits from upto =
    let same : nat_abs span.word * bits + span.head + (place - (nat_abs span.word * bits + span.head)) ≡ place = omega (arith, from) in
    subst (λ n. Covers bits span (pos n)) same (covers-own bits span words (place - (nat_abs span.word * bits + span.head)) fits (omega (arith, from, upto)))

module _ {S : Type 0} (bits : ℕ) (at : ℕ → ℕ) (view : S → Span) (list_for : ℕ → S → List Bool) (old : List ℕ) where
  abbrev start : S → ℕ
  start x = nat_abs (view x).word * bits + (view x).head

  abbrev holds : S → ℕ → Bool
  holds x place = nat_le (start x) place && nat_lt place (start x + (view x).len)

  -- the bit at a place, where the spans of a list have theirs, the first of them that of number k
  abbrev bit_put : ℕ → List S → ℕ → Bool
  bit_put k [] place = bit_of bits at old place
  bit_put k (x ∷ xs) place = if holds x place then element (list_for k x) (place - start x) else bit_put (suc k) xs place

  -- the memory with these bits
  abbrev pub put : List S → List ℕ
  put spans = tabulate (length old) (λ w. number_of at (λ i. bit_put 0 spans (w * bits + i)) bits)

  bit_of-put : (spans : List S) (place : ℕ) → 0 < bits → IsOneToOne bits at → place < length old * bits → bit_of bits at (put spans) place ≡ bit_put 0 spans place
  bit_of-put spans place some law within =
      let w : ℕ = place / bits in
      let below : place / bits < length old = (div-lt_iff_lt-mul {k = bits} {x = place} {y = length old} some).1 within in
      ap (λ n. digit n (at (place % bits))) (get_or-tabulate (length old) _ (place / bits) 0 below)
      ∙ digit-number_of_at bits at (λ i. bit_put 0 spans (w * bits + i)) (place % bits) law (mod_below place bits some)
      ∙ ap (bit_put 0 spans) (div-add-mod' place bits)

  bit-past : (spans : List S) (place : ℕ) → 0 < bits → length old * bits ≤ place → bit_of bits at (put spans) place ≡ bit_of bits at old place
  bit-past spans place some past =
      let beyond : length old ≤ place / bits = le-div (length old) place bits some past in
      ap (λ w. digit w (at (place % bits))) (get_or_past (put spans) (place / bits) 0 (omega (arith, beyond, length-tabulate (length old) (λ w. number_of at (λ i. bit_put 0 spans (w * bits + i)) bits))) ∙ sym (get_or_past old (place / bits) 0 beyond))

  -- a place of one span alone has an element of its list
  bit_put-own : (k : ℕ) (xs : List S) (s : ℕ) (x : S) (place : ℕ) → slice_get xs s ≡ Some x → start x ≤ place → place < start x + (view x).len
      → ((t : ℕ) (y : S) → slice_get xs t ≡ Some y → start y ≤ place → place < start y + (view y).len → t ≡ s)
      → bit_put k xs place ≡ element (list_for (k + s) x) (place - start x)
  bit_put-own k [] s x place is from upto only = absurd (none-some x is)
  bit_put-own k (y ∷ xs) zero x place is from upto only =
      let same : y ≡ x = same_Some y x is in
      let here : k + 0 ≡ k = omega arith in
      rw (same, here, le-leb (start x) place from, lt-ltb place (start x + (view x).len) upto) refl
  bit_put-own k (y ∷ xs) (suc s) x place is from upto only =
      elim (holds_cases (start y) (view y).len place) [
        | inl both ↦ absurd (let never = only 0 y refl both.0 both.1 in omega (arith, never))
        | inr other ↦ (
            let next : suc k + s ≡ k + suc s = omega arith in
            let out = other.1 in
            rw out (bit_put-own (suc k) xs s x place is from upto (λ t z it low high. let step = only (suc t) z it low high in omega (arith, step)) ∙ ap (λ n. element (list_for n x) (place - start x)) next))
      ]

  -- a place of none of them has the old bit
  bit_put-other : (k : ℕ) (xs : List S) (place : ℕ) → ((t : ℕ) (y : S) → slice_get xs t ≡ Some y → start y ≤ place → place < start y + (view y).len → ⊥) → bit_put k xs place ≡ bit_of bits at old place
  bit_put-other k [] place none = refl
  bit_put-other k (y ∷ xs) place none =
      elim (holds_cases (start y) (view y).len place) [
        | inl both ↦ absurd (none 0 y refl both.0 both.1)
        | inr other ↦ (let out = other.1 in rw out (bit_put-other (suc k) xs place (λ t z it. none (suc t) z it)))
      ]

  -- the memory is the old one with the lists in their places
  pub put-placed : (spans : List S) → 0 < bits → IsOneToOne bits at → CanRun bits view spans (length old)
      → ((s : ℕ) (x : S) → slice_get spans s ≡ Some x → length (list_for s x) ≡ (view x).len) → IsPlaced bits at view spans list_for old (put spans)
  put-placed spans some law can long =
      let words = length old in
      let outside : (place : ℕ) → IsOutside bits view spans place → bit_of bits at (put spans) place ≡ bit_of bits at old place =
      λ place out. elim (cases_lt place (length old * bits)) [
        | inl within ↦ (
            bit_of-put spans place some law within
            ∙ bit_put-other 0 spans place (λ t y it from upto. out t y it (covers_at bits (view y) words place (fits_at bits view spans words t y can it) from upto)))
        | inr past ↦ bit-past spans place some past
      ] in
      record {
        lists = λ s x is.
            let fits = fits_at bits view spans words s x can is in
            sym (tabulate-from_elements (list_for s x) (view x).len _ false (long s x is) (λ j h.
            let place : ℕ = start x + j in
            let within : nat_abs (view x).word * bits + (view x).head + j < length old * bits = place_within bits (view x) (length old) j some fits h in
            let own : bit_put 0 spans (start x + j) ≡ element (list_for (0 + s) x) (start x + j - start x) =
            bit_put-own 0 spans s x (start x + j) is (omega arith) (omega (arith, h))
            (λ t y it from upto. elim (cases_eq t s) [
              | inl e ↦ e
              | inr differ ↦ absurd (apart_at bits view spans t s y x can.1 it is differ (pos (start x + j)) (covers_at bits (view y) words (start x + j) (fits_at bits view spans words t y can it) from upto) (covers-own bits (view x) words j fits h))
            ]) in
            let back : start x + j - start x ≡ j = omega arith in
            let number : 0 + s ≡ s = omega arith in
            sym (bit_of-put spans (start x + j) some law within ∙ own ∙ ap (element (list_for (0 + s) x)) back ∙ ap (λ n. element (list_for n x) j) number)));
        others = outside;
        apart = λ word head len from beside. list-kept bits at word head len old (put spans) from (λ place here. outside place (λ s x is there. beside s x is (pos place) there here));
        as_many_words = length-tabulate (length old) (λ w. number_of at (λ i. bit_put 0 spans (w * bits + i)) bits);
      }
