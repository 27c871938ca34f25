-- The pointer to a bit of a span.
use Rattle.std.proofs.Common.{◌≡◌, ℕ, pos, negsuc, nat_abs, ◌+◌, ◌-◌, ◌*◌, ◌/◌, ◌%◌, ◌<◌, ◌≤◌, ◌+ℤ◌, ◌≤ℤ◌, refl, sym, subst, ◌∙◌, ap, arith, inl, inr}
use Rattle.std.specs.Prelude.{ℤ, ◌*ℤ◌}
use Rattle.std.proofs.lemmas.Int.{ints}
use Rattle.std.proofs.lemmas.Nat.{mul-le, div-add-mod', div-mul-add, mod_below}
use Rattle.std.proofs.lemmas.Bool.{cases_eq, cases_lt}
use Rattle.bitvec_ptr.specs.Place.{Ptr, place_at, place_of, memory_place, words_met}
use Rattle.bitvec_ptr.specs.Steps.{IsIn, RangeIsIn}
use Rattle.bitvec_ptr.proofs.MemoryLemmas.{place_parts}
use Rattle.bitvec_ptr.proofs.PlaceLemmas.{words_met-none, words_met-some}
use Rattle.bitvec_ptr.proofs.PlaceOrder.{place_same}
use Rattle.bitvec_ptr.proofs.StepLemmas.{step_place}
use Rattle.bitvec_span.specs.Span.{Span, Fits}

-- a greater number has no smaller quotient
pub quotient_up : (a b k : ℕ) → 0 < k → a ≤ b → a / k ≤ b / k
quotient_up a b k some h =
    elim (cases_lt (b / k) (a / k)) [
      | inl less ↦ absurd (
          let row : (b / k + 1) * k ≤ a / k * k = mul-le (b / k + 1) k (a / k) k (omega arith) (omega arith) in
          omega (arith, row, div-add-mod' a k, div-add-mod' b k, mod_below b k some))
      | inr most ↦ most
    ]

-- the pointer to the place `i` places on from the first of a span
abbrev pub pointer_at : ℕ → Span → ℕ → Ptr
pointer_at bits span i = record { word = span.word +ℤ pos ((span.head + i) / bits); bit = (span.head + i) % bits }

pub index_from : (word : ℤ) (bits head i : ℕ) → pos 0 ≤ℤ word → nat_abs (word +ℤ pos ((head + i) / bits)) * bits + (head + i) % bits ≡ nat_abs word * bits + head + i
index_from (pos w) bits head i from = let parts = div-add-mod' (head + i) bits in omega arith
index_from (negsuc w) bits head i from = absurd (omega (arith, ints))

word_from : (word : ℤ) (q : ℕ) → pos 0 ≤ℤ word → nat_abs (word +ℤ pos q) ≡ nat_abs word + q
word_from (pos w) q from = omega arith
word_from (negsuc w) q from = absurd (omega (arith, ints))

module _ (bits : ℕ) (span : Span) (words : ℕ) (in_head : span.head < bits) (fits : Fits bits span words) where
  met-pointer_at : (i : ℕ) → i < span.len → (span.head + i) / bits < words_met bits span.head span.len
  met-pointer_at i h = let up = quotient_up (span.head + i) (span.head + span.len - 1) bits (omega arith) (omega arith) in omega (arith, up, words_met-some bits span.head span.len (omega arith))

  -- a bit of the span is in the memory
  pub in-pointer_at : (i : ℕ) → i < span.len → IsIn (pointer_at bits span i) words
  in-pointer_at i h =
      let met = met-pointer_at i h in
      let word = word_from span.word ((span.head + i) / bits) fits.0 in
      (omega (arith, ints, fits.0), omega (arith, ints, fits.0, fits.1, met))

  -- so is each pointer at its place
  pub in-place_of : (ptr : Ptr) (i : ℕ) → ptr.bit < bits → i < span.len → place_of bits ptr ≡ place_at bits span.word span.head +ℤ pos i → IsIn ptr words
  in-place_of ptr i small h place =
      let some : 0 < bits = omega arith in
      let step = step_place span.word (pos ((span.head + i) / bits)) (pos i) (pos (span.head + i)) span.head _ bits some refl refl refl in
      subst (λ (p : Ptr). IsIn p words) (sym (place_same bits ptr (pointer_at bits span i) small (mod_below (span.head + i) bits some) (place ∙ sym step))) (in-pointer_at i h)

  -- so is a stretch of its bits
  pub range-pointer_at : (i count : ℕ) → i + count ≤ span.len → RangeIsIn bits (pointer_at bits span i) words count
  range-pointer_at i count h =
      let some : 0 < bits = omega arith in
      let word = word_from span.word ((span.head + i) / bits) fits.0 in
      let parts = div-add-mod' (span.head + i) bits in (
        omega (arith, ints, fits.0),
        elim (cases_eq count 0) [
          | inl none ↦ (
              let no_more = words_met-none bits ((span.head + i) % bits) count none in
              elim (cases_eq i 0) [
                | inl first ↦ (
                    let small : span.head + i < bits = omega arith in
                    let zero = ap (λ n. n / bits) (let same : span.head + i ≡ 0 * bits + (span.head + i) = omega arith in same) ∙ div-mul-add 0 bits (span.head + i) small in
                    omega (arith, word, fits.1, no_more, zero))
                | inr later ↦ (
                    let before = met-pointer_at (i - 1) (omega arith) in
                    let next = quotient_up (span.head + i) (1 * bits + (span.head + (i - 1))) bits some (omega arith) in
                    let row = (place_parts 1 bits (span.head + (i - 1)) some).0 in
                    omega (arith, word, fits.1, no_more, before, next, row))
              ])
          | inr more ↦ (
              let met = words_met-some bits ((span.head + i) % bits) count (omega arith) in
              let last = met-pointer_at (i + count - 1) (omega arith) in
              let there = (place_parts ((span.head + i) / bits) bits ((span.head + i) % bits + count - 1) some).0 in
              let same : (span.head + i) / bits * bits + ((span.head + i) % bits + count - 1) ≡ span.head + (i + count - 1) = omega (arith, parts) in
              let end : (span.head + (i + count - 1)) / bits ≡ (span.head + i) / bits + ((span.head + i) % bits + count - 1) / bits = ap (λ n. n / bits) (sym same) ∙ there in
              omega (arith, word, fits.1, met, last, end))
        ],
      )

index_same : (here there : ℤ) (bits bit head i : ℕ) → pos 0 ≤ℤ here → pos 0 ≤ℤ there → (here *ℤ pos bits) +ℤ pos bit ≡ ((there *ℤ pos bits) +ℤ pos head) +ℤ pos i → nat_abs here * bits + bit ≡ nat_abs there * bits + head + i
index_same (pos w) (pos v) bits bit head i from first e = omega (arith, ints, e)
index_same (negsuc w) (pos v) bits bit head i from first e = absurd (omega (arith, ints, from))
index_same (pos w) (negsuc v) bits bit head i from first e = absurd (omega (arith, ints, first))
index_same (negsuc w) (negsuc v) bits bit head i from first e = absurd (omega (arith, ints, from))

-- the index of a pointer to bit i of a span, among the bits of a memory that both lie in
pub index-at_place : (bits : ℕ) (ptr : Ptr) (span : Span) (words i : ℕ) → IsIn ptr words → Fits bits span words → place_of bits ptr ≡ place_at bits span.word span.head +ℤ pos i → memory_place bits ptr ≡ nat_abs span.word * bits + span.head + i
index-at_place bits ptr span words i inside fits e = index_same ptr.word span.word bits ptr.bit span.head i inside.0 fits.0 e

-- the range of a span's bits, from a pointer to the first, lies in a memory that the span fits
pub range-in : (bits words count : ℕ) (span : Span) (p : Ptr) → p ≡ record { word = span.word; bit = span.head } → count ≡ span.len → Fits bits span words → RangeIsIn bits p words count
range-in bits words count span p e all fits =
    subst (λ (q : Ptr). RangeIsIn bits q words count) (sym e) (subst (λ n. RangeIsIn bits (record { word = span.word; bit = span.head }) words n) (sym all) fits)
