-- What a level says of one word after a block of it was put in use, or made free.
use Rattle.std.proofs.Common.{◌≡◌, ◌⊎◌, inl, inr, ℕ, ◌+◌, ◌-◌, ◌/◌, ◌<◌, ◌≤◌, Bool, true, false, true≢false, List, ◌++◌, length, take, drop, replicate, sym, ap, ◌∙◌, subst, arith, length-append, length-drop}
use Rattle.std.proofs.lemmas.Bool.{cases_lt}
use Rattle.std.proofs.lemmas.List.{length-replicate, length-take-le}
use Rattle.bitvec.specs.Span.{element, with_filled}
use Rattle.freemap.specs.Blocks.{word_count}
use Rattle.freemap.specs.Summary.{IsFull, SaysOf, Summarises, SummarisesBeside}

-- a list with a stretch filled is as long as it was
pub filled_long : (xs ys : List Bool) (from to : ℕ) (bit : Bool) → ys ≡ with_filled xs from to bit → from ≤ to → to ≤ length xs → length ys ≡ length xs
filled_long xs ys from to bit is rises inside =
    let front = length-take-le from xs (omega (arith, rises, inside)) in
    let middle = length-replicate (to - from) bit in
    let back = length-drop to xs in
    let most = length-append (take from xs) (replicate (to - from) bit) in
    ap length is ∙ length-append (take from xs ++ replicate (to - from) bit) (drop to xs) ∙ omega (arith, front, most, middle, back, rises, inside)

-- the word of a block is one of those that are marked
mark_there : (used full : List Bool) (at : ℕ) → Summarises used full → at < length used → at / 64 < length full
mark_there used full at sum there = (let words = sum.words in omega (arith, words, there))

-- a word with a block that is free is not full
pub not_full_off : (new : List Bool) (at : ℕ) → element new at ≡ false → at < length new → ¬ IsFull new (at / 64)
not_full_off new at off there full = true≢false (sym (full at (omega arith) (omega arith) there) ∙ off)

-- a word that is full, and marked
pub says_full : (used full : List Bool) (w : ℕ) → element full w ≡ true → IsFull used w → SaysOf used full w
says_full used full w on is = (λ _. is, λ _. on)

-- a word that is not full, and not marked
pub says_not_full : (used full : List Bool) (w : ℕ) → ¬ (element full w ≡ true) → ¬ IsFull used w → SaysOf used full w
says_not_full used full w off not = (λ on. absurd (off on), λ is. absurd (not is))

-- a word that was full before one more block of it was put in use is full after it
still_full : (used new : List Bool) (at : ℕ) → length new ≡ length used → ((j : ℕ) → (j < at) ⊎ (at + 1 ≤ j) → element new j ≡ element used j) → element new at ≡ true → IsFull used (at / 64) → IsFull new (at / 64)
still_full used new at same kept on was b low high there =
    elim (cases_lt b at) [
      | inl before ↦ kept b (inl before) ∙ was b low high (omega (arith, there, same))
      | inr from ↦ (elim (cases_lt at b) [
        | inl behind ↦ kept b (inr (omega (arith, behind))) ∙ was b low high (omega (arith, there, same))
        | inr upto ↦ (let is : at ≡ b = omega (arith, from, upto) in subst (λ n. element new n ≡ true) is on)
      ])
    ]

-- a block was put in use, and its word is not full
pub says_of_taken : (used new full : List Bool) (at : ℕ) → Summarises used full → length new ≡ length used → ((j : ℕ) → (j < at) ⊎ (at + 1 ≤ j) → element new j ≡ element used j) → element new at ≡ true → at < length used
    → ¬ IsFull new (at / 64) → SaysOf new full (at / 64)
says_of_taken used new full at sum same kept on there not =
    says_not_full new full (at / 64) (λ marked. not (still_full used new at same kept on ((sum.says (at / 64) (mark_there used full at sum there)).0 marked))) not

-- a block was made free, and its word was not full
pub says_of_freed : (used new full : List Bool) (at : ℕ) → Summarises used full → length new ≡ length used → element new at ≡ false → at < length used → ¬ IsFull used (at / 64) → SaysOf new full (at / 64)
says_of_freed used new full at sum same off there not =
    says_not_full new full (at / 64) (λ marked. not ((sum.says (at / 64) (mark_there used full at sum there)).0 marked)) (not_full_off new at off (omega (arith, there, same)))

-- a level that says nothing yet has a mark for each word
pub unsaid : (used full : List Bool) (n : ℕ) → length full ≡ word_count (length used) → n ≡ word_count (length used) → SummarisesBeside used full 0 n
unsaid used full n long many = record {
  words = long;
  inside = omega (arith, long, many);
  says = λ w beside there. absurd (none w beside (omega (arith, there, long, many)));
} where
  none : (w : ℕ) → (w < 0) ⊎ (n ≤ w) → w < n → ⊥
  none w (inl before) there = omega (arith, before)
  none w (inr behind) there = omega (arith, behind, there)
