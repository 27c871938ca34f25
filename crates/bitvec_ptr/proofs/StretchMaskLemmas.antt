-- The mask of bits side by side: ones shifted down until `count` are left, and up to a position.
use Rattle.std.proofs.Common.{◌≡◌, ℕ, ◌+◌, ◌-◌, ◌^◌, ◌<◌, ◌≤◌, true, false, subst, ◌∙◌, ap, arith, inl, inr}
use Rattle.std.proofs.lemmas.Bool.{cases_lt}
use Rattle.bitvec_mem.specs.Digit.{digit}
use Rattle.bitvec_mem.proofs.DigitLemmas.{digit_all}
use Rattle.bitvec_order.specs.Order.{IsMaskOf, Rises, Falls}

-- `down` is all ones shifted down to the lowest `count`, and `mask` is `down` shifted up to `position`
pub record IsShiftedTwice (bits position count all down mask : ℕ) : Type 0 where
  pub some : 0 < count
  pub fits : position + count ≤ bits
  pub ones : all ≡ 2 ^ bits - 1
  pub below : mask < 2 ^ bits
  pub shifted : (q : ℕ) → bits - count + q < bits → digit down q ≡ digit all (bits - count + q)
  pub past : (q : ℕ) → q < bits → bits ≤ bits - count + q → digit down q ≡ false
  pub low : (q : ℕ) → q < position → digit mask q ≡ false
  pub moved : (q : ℕ) → position + q < bits → digit mask (position + q) ≡ digit down q

-- its digits from `position` on, `count` of them, are ones
twice_set : {bits position count all down mask : ℕ} → IsShiftedTwice bits position count all down mask
    → (p : ℕ) → position ≤ p → p < position + count → digit mask p ≡ true
twice_set {bits = bits} {position = position} {count = count} {mask = mask} is p above below =
    let fits = is.fits in
    let e : position + (p - position) ≡ p = omega arith in
    let there : bits - count + (p - position) < bits = omega arith in
    subst (λ n. digit mask n ≡ true) e
    (is.moved (p - position) (omega arith) ∙ is.shifted (p - position) there
    ∙ ap (λ v. digit v (bits - count + (p - position))) is.ones ∙ digit_all bits (bits - count + (p - position)) there)

-- and no others are
twice_found : {bits position count all down mask : ℕ} → IsShiftedTwice bits position count all down mask
    → (p : ℕ) → p < bits → digit mask p ≡ true → (position ≤ p) × (p < position + count)
twice_found {bits = bits} {position = position} {count = count} {mask = mask} is p small one =
    let fits = is.fits in
    elim (cases_lt p position) [
      | inl low ↦ (let zero = is.low p low in absurd (cc))
      | inr above ↦ elim (cases_lt p (position + count)) [
        | inl below ↦ (above, below)
        | inr high ↦ (
            let e : position + (p - position) ≡ p = omega arith in
            let zero : digit mask p ≡ false =
            subst (λ n. digit mask n ≡ false) e (is.moved (p - position) (omega arith) ∙ is.past (p - position) (omega arith) (omega arith)) in
            absurd (cc))
      ]
    ]

-- where positions rise it is the mask of the indices from `position` on
pub twice_rises : {bits position count all down mask : ℕ} → IsShiftedTwice bits position count all down mask
    → (at : ℕ → ℕ) → Rises bits at → IsMaskOf bits at position (position + count) mask
twice_rises {bits = bits} {position = position} {count = count} {mask = mask} is at rises = record {
  below = is.below;
  ones = λ p small. (
    λ one. (let found = twice_found is p small one in (p, found.0, found.1, rises p small)),
    λ here. (
        let fits = is.fits in
        let same : at here.0 ≡ here.0 = rises here.0 (omega (arith, here.2)) in
        twice_set is p (omega (arith, here.1, here.3, same)) (omega (arith, here.2, here.3, same))),
  );
}

-- where they fall it is that of the indices whose last one has the position
pub twice_falls : {bits position count all down mask : ℕ} → IsShiftedTwice bits position count all down mask
    → (at : ℕ → ℕ) → Falls bits at → (bit : ℕ) → position + bit + count ≡ bits → IsMaskOf bits at bit (bit + count) mask
twice_falls {bits = bits} {position = position} {count = count} {mask = mask} is at falls bit ends = record {
  below = is.below;
  ones = λ p small. (
    λ one. (
        let found = twice_found is p small one in
        let i = bits - 1 - p in
        let back : bits - 1 - (bits - 1 - p) ≡ p = omega (arith, small) in
        (i, omega (arith, found.1, ends), omega (arith, found.0, ends, small), falls i (omega (arith, small)) ∙ back)),
    λ here. (
        let same : at here.0 ≡ bits - 1 - here.0 = falls here.0 (omega (arith, here.2, ends)) in
        twice_set is p (omega (arith, here.2, here.3, same, ends)) (omega (arith, here.1, here.2, here.3, same, ends))),
  );
}
