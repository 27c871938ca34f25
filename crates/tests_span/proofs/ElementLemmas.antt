-- The words in which a span has a bit: as many as it meets, from its first on.
use Rattle.std.proofs.Common.{◌≡◌, ℕ, ℤ, pos, ◌+◌, ◌*◌, ◌-◌, ◌/◌, ◌<◌, ◌≤◌, ◌+ℤ◌, ◌-ℤ◌, ◌≤ℤ◌, ap, inl, inr, arith}
use Rattle.std.specs.Int.RustNames.{unsigned_abs}
use Rattle.std.proofs.lemmas.Bool.{cases_eq, cases_lt}
use Rattle.std.proofs.lemmas.Int.{ints}
use Rattle.std.proofs.lemmas.Nat.{le-div, div-add-mod'}
use Rattle.std.proofs.Math.Nat.{mul-le-mul_right}
use borrow.Author.Differences.{up, down}
use Rattle.bitvec_ptr.specs.Place.{words_met}
use Rattle.bitvec_ptr.proofs.PlaceLemmas.{words_met-none, words_met-some}
use Rattle.bitvec_ptr.proofs.PlaceOrder.{place_sum}
use Rattle.bitvec_span.specs.Span.{Span}
use Rattle.tests_span.specs.Elements.{HasBitIn}

-- a word `k` words on from another has its first place `k` widths on
scaled : (bits : ℕ) (first word : ℤ) (k : ℕ) → word ≡ first +ℤ pos k → up word * bits + down first * bits ≡ down word * bits + up first * bits + k * bits
scaled bits first word k e =
    let apart : up word + down first ≡ down word + up first + k = omega (arith, ints, e) in
    let times = ap (λ n. n * bits) apart in
    omega (arith, times)

-- a word that is not before another is their distance on from it
pub distance-on : (first word : ℤ) (k : ℕ) → first ≤ℤ word → k ≡ unsigned_abs (word -ℤ first) → word ≡ first +ℤ pos k
distance-on first word k from e = omega (arith, ints, from, e)

module _ (bits : ℕ) (span : Span) (word : ℤ) (in_head : span.head < bits) where
  -- each of the words that the span meets has a bit of it: the first at its head, each other at index 0
  pub has-bit : (k : ℕ) → word ≡ span.word +ℤ pos k → k < words_met bits span.head span.len → HasBitIn bits span word
  has-bit k e met =
      elim (cases_eq span.len 0) [
        | inl none ↦ absurd (omega (arith, met, words_met-none bits span.head span.len none))
        | inr other ↦ (
            let some : 0 < span.len = omega arith in
            let count = words_met-some bits span.head span.len some in
            let last = div-add-mod' (span.head + span.len - 1) bits in
            let row : k * bits ≤ (span.head + span.len - 1) / bits * bits = mul-le-mul_right bits (omega (arith, met, count)) in
            let start = place_sum bits span.word span.head in
            let on = scaled bits span.word word k e in
            elim (cases_eq k 0) [
              | inl first ↦ (
                  let here = place_sum bits word span.head in
                  let zero = ap (λ n. n * bits) first in
                  (span.head, in_head, (omega (arith, ints, here, start, on, zero), omega (arith, ints, here, start, on, zero))))
              | inr later ↦ (
                  let here = place_sum bits word 0 in
                  let one : 1 * bits ≤ k * bits = mul-le-mul_right bits (omega arith) in
                  (0, omega arith, (omega (arith, ints, here, start, on, one), omega (arith, ints, here, start, on, row, last))))
            ])
      ]

  -- a word with a bit of the span is none before its first
  pub from-bit : HasBitIn bits span word → span.word ≤ℤ word
  from-bit has =
      elim (cases_lt (up word + down span.word) (up span.word + down word)) [
        | inl less ↦ (
            let here = place_sum bits word has.0 in
            let start = place_sum bits span.word span.head in
            let row : (up word + down span.word + 1) * bits ≤ (up span.word + down word) * bits = mul-le-mul_right bits (omega arith) in
            absurd (omega (arith, ints, has.1, has.2.0, here, start, row)))
        | inr most ↦ omega (arith, ints, most)
      ]

  -- and is one of those that it meets
  pub met-bit : (k : ℕ) → word ≡ span.word +ℤ pos k → HasBitIn bits span word → k < words_met bits span.head span.len
  met-bit k e has =
      let here = place_sum bits word has.0 in
      let start = place_sum bits span.word span.head in
      let on = scaled bits span.word word k e in
      let some : 0 < span.len = omega (arith, ints, has.2.0, has.2.1) in
      let within : k * bits ≤ span.head + span.len - 1 = omega (arith, ints, has.2.1, here, start, on) in
      let most = le-div k (span.head + span.len - 1) bits (omega arith) within in
      omega (arith, most, words_met-some bits span.head span.len some)
