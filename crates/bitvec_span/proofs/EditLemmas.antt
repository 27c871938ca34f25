-- Edits of a part of a word, from what they do under a mask.
use Rattle.std.proofs.Common.{◌≡◌, ℕ, zero, suc, ◌<◌, ◌≤◌, ◌^◌, Bool, ◌&&◌, if◌then◌else◌, nat_le, nat_lt, List, length, map, refl, ap, ◌∙◌, arith}
use Rattle.std.proofs.lemmas.List.{length-map, map-set}
use Rattle.std.specs.Prelude.{slice_index, slice_set}
use Rattle.bitvec_mem.specs.Digit.{digit}
use Rattle.bitvec_order.specs.Order.{IsOneToOne, IsMaskOf, number_of}
use Rattle.bitvec_order.proofs.IndexLemmas.{digit-mask_at, number_of-from_digits}
use Rattle.bitvec_span.specs.Slot.{Slot, slot_part, slot_span, EditsPart}
use Rattle.bitvec_span.proofs.BecomesLemmas.{lists-kept}
use Rattle.bitvec_span.proofs.PartEditLemmas.{others-part}
use Rattle.bitvec_span.proofs.PartLemmas.{value_of-from_mask}

-- a word was put in place of the slot's, in a memory of words of that width
pub record IsReplaced {X : Type 0} (bits : ℕ) (slot : Slot) (old new : List X) (word : X)
    : Type 0 where
  pub some : 0 < bits
  pub tail_in : slot.tail ≤ bits
  pub in_memory : slot.word < length old
  pub put : new ≡ slice_set old slot.word word

-- under a slot's mask, the bits of the word `was` were answered, and made those of `after` in
-- `word`
pub record IsEditedUnderMask (bits : ℕ) (at : ℕ → ℕ) (slot : Slot) (after : ℕ → Bool)
    (was word answer : ℕ) : Type 0 where
  pub mask : ℕ
  pub masked : IsMaskOf bits at slot.head slot.tail mask
  pub small : word < 2 ^ bits
  pub small_answer : answer < 2 ^ bits
  pub digits : (i : ℕ) → i < bits
      → digit word (at i) ≡ (if digit mask (at i) then after i else digit was (at i))
  pub kept : (p : ℕ) → p < bits → digit answer p ≡ (digit was p && digit mask p)

-- a word that was edited under the mask of its slot's part, and put in its place, is an edit of
-- the part
pub edits_part : {X : Type 0} (bits : ℕ) (at : ℕ → ℕ) (slot : Slot) (after : ℕ → Bool)
    (number : X → ℕ) (old new : List X) (word : X) (answer : ℕ)
    → IsOneToOne bits at → IsReplaced bits slot old new word
    → IsEditedUnderMask bits at slot after (slice_index (map number old) slot.word) (number word)
    answer
    → EditsPart bits at slot after (map number old) (map number new) answer
edits_part bits at slot after number old new word answer law replaced edited =
    let was : ℕ = slice_index (map number old) slot.word in
    let placed : map number new ≡ slice_set (map number old) slot.word (number word) =
    ap (map number) replaced.put ∙ map-set number old slot.word word in
    let each : (i : ℕ) → i < bits → digit (number word) (at i)
    ≡ (if nat_le slot.head i && nat_lt i slot.tail then after i else digit was (at i)) = λ i h.
    edited.digits i h
    ∙ ap (λ b. if b then after i else digit was (at i))
    (digit-mask_at bits at slot.head slot.tail edited.mask i law replaced.tail_in edited.masked
    h) in
    record {
      words = placed
          ∙ ap (slice_set (map number old) slot.word)
          (number_of-from_digits bits at _ (number word) law edited.small each);
      apart = lists-kept bits at (slot_span slot) (map number old) (map number new)
          (others-part bits at slot after (map number old) (map number new) (number word)
          replaced.some (omega (arith, replaced.in_memory, length-map old number)) placed each);
      answered = value_of-from_mask bits at (slot_part slot (map number old)) was edited.mask answer
          law replaced.tail_in refl edited.masked edited.small_answer edited.kept;
    }

-- the number of a test is that of every test with the same values
number_of-same : (at : ℕ → ℕ) (f g : ℕ → Bool) (n : ℕ) → ((i : ℕ) → i < n → f i ≡ g i) → number_of at f n ≡ number_of at g n
unfolding number_of
number_of-same at f g zero same = refl
number_of-same at f g (suc n) same = rw (same n (omega arith), number_of-same at f g n (λ i below. same i (omega arith))) refl

-- an edit of a part is that to every bits which are the same
pub edits_as : (bits : ℕ) (at : ℕ → ℕ) (slot : Slot) (f g : ℕ → Bool) (old new : List ℕ) (answer : ℕ) → ((i : ℕ) → i < bits → f i ≡ g i)
    → EditsPart bits at slot f old new answer → EditsPart bits at slot g old new answer
edits_as bits at slot f g old new answer same e = record {
  words = e.words ∙ ap (slice_set old slot.word) (number_of-same at _ _ bits (λ i h.
      ap (λ b. if (nat_le slot.head i && nat_lt i slot.tail) then b else digit (slice_index old slot.word) (at i)) (same i h)));
  apart = e.apart;
  answered = e.answered;
}
