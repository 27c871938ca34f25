-- The blocks of a word, by its digits.
use Rattle.std.proofs.Common.{◌≡◌, ℕ, ◌+◌, ◌-◌, ◌*◌, ◌<◌, ◌≤◌, Bool, true, false, not, List, ◌∷◌, [], ◌++◌, length, take, drop, replicate, refl, sym, ap, ◌∙◌, subst, arith, append_assoc}
use Rattle.std.specs.Prelude.{slice_index, slice_set}
use Rattle.std.proofs.lemmas.List.{take-append-drop, take-set, drop-set}
use Rattle.bitvec.specs.Digit.{digit}
use Rattle.bitvec.specs.Memory.{bit_of}
use Rattle.bitvec.specs.Order.{IsOneToOne}
use Rattle.bitvec.specs.Span.{element, with_filled, front_span}
use Rattle.bitvec.specs.WordEnds.{HasNoIndex, IsFirstIndex}
use Rattle.bitvec.proofs.BitLemmas.{bit_of-word}
use Rattle.bitvec.proofs.PartLemmas.{element-list_of, length-list_of}
use Rattle.freemap.specs.Blocks.{stored_blocks}
use Rattle.freemap.specs.Summary.{IsFull, IsFirstFreeOf}

-- how many blocks there are
pub stored_long : (at : ℕ → ℕ) (blocks : ℕ) (words : List ℕ) → length (stored_blocks at blocks words) ≡ blocks
stored_long at blocks words = length-list_of 64 at (front_span blocks) words

-- a block of word w is a digit of it
pub stored_at : (at : ℕ → ℕ) (blocks : ℕ) (words : List ℕ) (w i : ℕ) → i < 64 → w * 64 + i < blocks → element (stored_blocks at blocks words) (w * 64 + i) ≡ digit (slice_index words w) (at i)
stored_at at blocks words w i small inside =
    let place : 0 * 64 + 0 + (w * 64 + i) ≡ w * 64 + i = omega arith in
    element-list_of 64 at (front_span blocks) words (w * 64 + i) inside
    ∙ ap (bit_of 64 at words) place
    ∙ bit_of-word 64 at words w i small

not_true : (v : Bool) → not v ≡ false → v ≡ true
not_true true e = refl
not_true false e = sym e

not_false : (v : Bool) → not v ≡ true → v ≡ false
not_false true e = sym e
not_false false e = refl

-- `turned` has the digits of word w turned over
module _ (at : ℕ → ℕ) (blocks : ℕ) (words : List ℕ) (w turned : ℕ) (law : IsOneToOne 64 at)
    (digits : (p : ℕ) → p < 64 → digit turned p ≡ not (digit (slice_index words w) p)) where
  used : List Bool
  used = stored_blocks at blocks words

  in_use_at : (i : ℕ) → i < 64 → w * 64 + i < blocks → digit turned (at i) ≡ false → element used (w * 64 + i) ≡ true
  unfolding used
  in_use_at i small inside off = stored_at at blocks words w i small inside ∙ not_true (digit (slice_index words w) (at i)) (sym (digits (at i) (law.below i small)) ∙ off)

  free_at : (i : ℕ) → i < 64 → w * 64 + i < blocks → digit turned (at i) ≡ true → element used (w * 64 + i) ≡ false
  unfolding used
  free_at i small inside on = stored_at at blocks words w i small inside ∙ not_false (digit (slice_index words w) (at i)) (sym (digits (at i) (law.below i small)) ∙ on)

  -- a block by its number
  by_number : (block : ℕ) → w * 64 ≤ block → block < w * 64 + 64 → block < blocks → digit turned (at (block - w * 64)) ≡ false → element used block ≡ true
  unfolding used
  by_number block from upto inside off =
      let whole : w * 64 + (block - w * 64) ≡ block = omega (arith, from) in
      subst (λ n. element (stored_blocks at blocks words) n ≡ true) whole (in_use_at (block - w * 64) (omega (arith, from, upto)) (omega (arith, whole, inside)) off)

  -- none of its digits is one, so the word is full
  pub full_word : HasNoIndex 64 at turned → IsFull (stored_blocks at blocks words) w
  unfolding used
  full_word none block from upto there =
      by_number block from upto (omega (arith, there, stored_long at blocks words)) (none (block - w * 64) (omega (arith, from, upto)))

  -- so it is where the first one is behind the blocks
  pub full_word_short : (i : ℕ) → IsFirstIndex 64 at turned i → blocks ≤ w * 64 + i → IsFull (stored_blocks at blocks words) w
  unfolding used
  full_word_short i first past block from upto there =
      let inside : block < blocks = omega (arith, there, stored_long at blocks words) in
      by_number block from upto inside (first.2 (block - w * 64) (omega (arith, from, inside, past)))

  -- the first of its ones is the lowest free block
  pub first_free : (i : ℕ) → IsFirstIndex 64 at turned i → w * 64 + i < blocks → IsFirstFreeOf (stored_blocks at blocks words) w (w * 64 + i)
  unfolding used
  first_free i first there =
      let small = first.0 in
      record {
        from = omega arith;
        upto = omega (arith, small);
        inside = omega (arith, there, stored_long at blocks words);
        free = free_at i small there first.1;
        before = λ k from before. by_number k from (omega (arith, before, small)) (omega (arith, before, there)) (first.2 (k - w * 64) (omega (arith, from, before)));
      }

-- a list with one element set is the list with that stretch filled
pub set_filled : (xs : List Bool) (at : ℕ) (v : Bool) → at < length xs → slice_set xs at v ≡ with_filled xs at (at + 1) v
set_filled xs at v inside =
    let one : at + 1 - at ≡ 1 = omega arith in
    sym (take-append-drop at (slice_set xs at v))
    ∙ ap (λ us. us ++ drop at (slice_set xs at v)) (take-set xs at v)
    ∙ ap (λ us. take at xs ++ us) (drop-set xs at v inside)
    ∙ sym (append_assoc (take at xs) (v ∷ []) (drop (at + 1) xs))
    ∙ ap (λ n. take at xs ++ replicate n v ++ drop (at + 1) xs) (sym one)
