-- How many bits of a span are one, by its words.
use Rattle.std.proofs.Common.{◌≡◌, ℕ, ◌+◌, ◌-◌, ◌*◌, ◌/◌, ◌<◌, ◌≤◌, ◌&&◌, Bool, false, nat_le, List, length, refl, sym, ap, ◌∙◌, inl, inr, arith}
use Rattle.std.proofs.lemmas.Bool.{cases_eq, le-leb, lt-leb}
use Rattle.std.proofs.lemmas.Nat.{div-add-mod', mod_below}
use Rattle.std.proofs.Math.Nat.{mul-le-mul_right}
use Rattle.bitvec.specs.Place.{words_met}
use Rattle.bitvec.proofs.PlaceLemmas.{words_met-none, words_met-some}
use Rattle.bitvec.specs.Digit.{digit, count_below}
use Rattle.bitvec.proofs.DigitLemmas.{count_below-same}
use Rattle.bitvec.proofs.CountLemmas.{count_none, count_split, count_most, count_start, count_chosen}
use Rattle.bitvec.specs.Order.{IsOneToOne}
use Rattle.bitvec.specs.Span.{element, word_of}

-- whether the list under a head has a one at a place
abbrev pub place_test : ℕ → List Bool → ℕ → Bool
place_test head xs m = nat_le head m && element xs (m - head)

-- one word more
pub count_word : (bits : ℕ) (at : ℕ → ℕ) (head : ℕ) (xs : List Bool) (k : ℕ) → IsOneToOne bits at
    → count_below (place_test head xs) (k * bits) + count_below (digit (word_of bits at head xs k)) bits ≡ count_below (place_test head xs) ((k + 1) * bits)
count_word bits at head xs k law =
    let e : (k + 1) * bits ≡ k * bits + bits = omega arith in
    ap (λ n. count_below (place_test head xs) (k * bits) + n) (count_chosen bits at (λ i. place_test head xs (k * bits + i)) law bits (omega arith))
    ∙ sym (ap (count_below (place_test head xs)) e ∙ count_split (place_test head xs) (k * bits) bits)

-- the ones of some words, with those of one word more
pub count_more : (bits : ℕ) (at : ℕ → ℕ) (head : ℕ) (xs : List Bool) (k number count total : ℕ) → IsOneToOne bits at → number ≡ word_of bits at head xs k → count ≡ count_below (digit number) bits
    → total ≡ count_below (place_test head xs) (k * bits) → total + count ≡ count_below (place_test head xs) ((k + 1) * bits)
count_more bits at head xs k number count total law is many before =
    omega (arith, before, many ∙ ap (λ n. count_below (digit n) bits) is, count_word bits at head xs k law)

-- all words
pub count_all : (head len most : ℕ) (xs : List Bool) → ((j : ℕ) → len ≤ j → element xs j ≡ false) → head + len ≤ most
    → count_below (place_test head xs) most ≡ count_below (element xs) len
count_all head len most xs past enough =
    let r : ℕ = most - (head + len) in
    let g : ℕ → Bool = place_test head xs in
    let e : most ≡ head + (len + (most - (head + len))) = omega arith in
    let a = count_split g head (len + r) in
    let b = count_none g head (λ p lt. rw (lt-leb head p lt) refl) in
    let c = count_split (λ i. g (head + i)) len r in
    let d = count_none (λ i. g (head + (len + i))) r (λ i lt. rw (le-leb head (head + (len + i)) (omega arith)) (ap (element xs) (let s : head + (len + i) - head ≡ len + i = omega arith in s) ∙ past (len + i) (omega arith))) in
    let f = count_below-same (λ i. g (head + i)) (element xs) len (λ i lt. rw (le-leb head (head + i) (omega arith)) (ap (element xs) (let s : head + i - head ≡ i = omega arith in s))) in
    ap (count_below g) e ∙ omega (arith, a, b, c, d, f)

-- the words up to one that is met have not many more bits than the span has
pub met_small : (bits head len k : ℕ) → 0 < bits → k < words_met bits head len → (k + 1) * bits ≤ head + len + bits
met_small bits head len k some met =
    elim (cases_eq len 0) [
      | inl none ↦ absurd (omega (arith, met, words_met-none bits head len none))
      | inr other ↦ (
          let count = words_met-some bits head len (omega arith) in
          let row : k * bits ≤ (head + len - 1) / bits * bits = mul-le-mul_right bits (omega (arith, met, count)) in
          omega (arith, row, div-add-mod' (head + len - 1) bits))
    ]

pub count_met : (bits head len : ℕ) (xs : List Bool) → 0 < bits → ((j : ℕ) → len ≤ j → element xs j ≡ false)
    → count_below (place_test head xs) (words_met bits head len * bits) ≡ count_below (element xs) len
count_met bits head len xs some past =
    elim (cases_eq len 0) [
      | inl none ↦ (
          let met = words_met-none bits head len none in
          let e : words_met bits head len * bits ≡ 0 * bits = ap (λ n. n * bits) met in
          ap (count_below (place_test head xs)) e ∙ sym (count_start (place_test head xs) bits) ∙ sym (count_none (element xs) len (λ p less. absurd (omega (arith, none, less)))))
      | inr other ↦ (
          let met : words_met bits head len * bits ≡ ((head + len - 1) / bits + 1) * bits = ap (λ n. n * bits) (words_met-some bits head len (omega arith)) in
          count_all head len (words_met bits head len * bits) xs past (omega (arith, met, div-add-mod' (head + len - 1) bits, mod_below (head + len - 1) bits some)))
    ]

-- the ones of the words up to word k of those met are not many more than the bits of a span
pub counted_small : (bits head len k total : ℕ) (xs : List Bool) → 0 < bits → k < words_met bits head len → total ≡ count_below (place_test head xs) ((k + 1) * bits) → total ≤ head + len + bits
counted_small bits head len k total xs some met counted = omega (arith, counted, count_most (place_test head xs) ((k + 1) * bits), met_small bits head len k some met)

-- those of all words met are the span's
pub counted_all : (bits head len met total : ℕ) (xs : List Bool) → 0 < bits → ((j : ℕ) → len ≤ j → element xs j ≡ false) → length xs ≡ len → met ≡ words_met bits head len → total ≡ count_below (place_test head xs) (met * bits)
    → total ≡ count_below (element xs) (length xs)
counted_all bits head len met total xs some past long is counted =
    counted
    ∙ ap (λ k. count_below (place_test head xs) (k * bits)) is
    ∙ count_met bits head len xs some past
    ∙ ap (count_below (element xs)) (sym long)
