-- An edit of a part of a word: every place outside the part, and the list of the span that has the part there.
use Rattle.std.proofs.Common.{◌≡◌, ◌≢◌, ℕ, ◌+◌, ◌-◌, ◌*◌, ◌/◌, ◌%◌, ◌<◌, ◌≤◌, Bool, true, false, ◌&&◌, nat_le, nat_lt, if◌then◌else◌, List, length, arith, sym, ◌∙◌, ap, refl, subst, inl, inr}
use Rattle.std.specs.Prelude.{slice_index, slice_set, pos, nat_abs}
use Rattle.std.proofs.lemmas.Int.{ints}
use Rattle.std.proofs.lemmas.Nat.{div-add-mod', mod_below}
use Rattle.std.proofs.lemmas.Bool.{cases_eq, cases_lt, eq-eqb, ne_eqb, le-leb, lt-leb, lt-ltb, le-ltb}
use Rattle.std.proofs.Math.ListN.{length-set}
use Rattle.std.proofs.lemmas.List.{get_or-set_same, get_or-set_other}
use Rattle.bitvec_mem.specs.Digit.{digit}
use Rattle.bitvec_order.specs.Order.{IsOneToOne}
use Rattle.bitvec_order.proofs.IndexLemmas.{digit-number_of_at}
use Rattle.bitvec_ptr.specs.Memory.{bit_of}
use Rattle.bitvec_ptr.specs.Place.{words_met}
use Rattle.bitvec_ptr.proofs.MemoryLemmas.{tabulate_same}
use Rattle.bitvec_span.specs.Span.{Span, Covers, Fits, KeepsOthers, BecomesList, list_of, word_of, with_word}
use Rattle.bitvec_span.specs.Parts.{part_head, part_tail, part_of}
use Rattle.bitvec_span.specs.Slot.{Slot, slot_of, slot_span, edited_word, EditsPart}
use Rattle.bitvec_span.proofs.BecomesLemmas.{becomes}
use Rattle.bitvec_span.proofs.CoverLemmas.{covers_from, covers-own}
use Rattle.bitvec_span.proofs.PartLemmas.{inside-from_part, part-from_inside, bit_of-span, element-list_of, length-list_of, value_of-part_of}

both : (a b : Bool) → a ≡ true → b ≡ true → (a && b) ≡ true
both true true e f = refl
both true false e f = absurd cc
both false b e f = absurd cc

not_first : (a b : Bool) → a ≡ false → (a && b) ≡ false
not_first true b e = absurd cc
not_first false b e = refl

not_second : (a b : Bool) → b ≡ false → (a && b) ≡ false
not_second true true e = absurd cc
not_second true false e = refl
not_second false b e = refl

-- a word was put in place of the slot's, with other digits at the positions of the part's indices alone
module _ (bits : ℕ) (at : ℕ → ℕ) (slot : Slot) (after : ℕ → Bool) (old new : List ℕ) (word : ℕ) (some : 0 < bits)
    (in_memory : slot.word < length old) (put : new ≡ slice_set old slot.word word)
    (digits : (i : ℕ) → i < bits
    → digit word (at i) ≡ (if nat_le slot.head i && nat_lt i slot.tail then after i else digit (slice_index old slot.word) (at i))) where
  -- the word, and any other
  word_same : slice_index new slot.word ≡ word
  word_same = ap (λ ws. slice_index ws slot.word) put ∙ get_or-set_same old slot.word word 0 in_memory

  word_other : (w : ℕ) → w ≢ slot.word → slice_index new w ≡ slice_index old w
  word_other w differ = ap (λ ws. slice_index ws w) put ∙ get_or-set_other old slot.word w word 0 differ

  -- its digit at the position of an index in the part, and of any other
  digit_inside : (i : ℕ) → i < bits → slot.head ≤ i → i < slot.tail → digit (slice_index new slot.word) (at i) ≡ after i
  digit_inside i h from upto =
      ap (λ w. digit w (at i)) word_same
      ∙ digits i h
      ∙ ap (λ b. if b then after i else digit (slice_index old slot.word) (at i)) (both _ _ (le-leb slot.head i from) (lt-ltb i slot.tail upto))

  digit_outside : (i : ℕ) → i < bits → (nat_le slot.head i && nat_lt i slot.tail) ≡ false
      → digit (slice_index new slot.word) (at i) ≡ digit (slice_index old slot.word) (at i)
  digit_outside i h out =
      ap (λ w. digit w (at i)) word_same
      ∙ digits i h
      ∙ ap (λ b. if b then after i else digit (slice_index old slot.word) (at i)) out

  -- a place of another word, or of an index outside the part
  bit-kept : (place : ℕ) → (place / bits ≡ slot.word → slot.head ≤ place % bits → place % bits < slot.tail → ⊥)
      → bit_of bits at new place ≡ bit_of bits at old place
  bit-kept place outside =
      elim (cases_eq (place / bits) slot.word) [
        | inl e ↦ (
            rw e (digit_outside (place % bits) (mod_below place bits some) (elim (cases_lt (place % bits) slot.head) [
              | inl before ↦ not_first _ _ (lt-leb slot.head (place % bits) before)
              | inr from ↦ elim (cases_lt (place % bits) slot.tail) [
                | inl upto ↦ absurd (outside e from upto)
                | inr past ↦ not_second _ _ (le-ltb (place % bits) slot.tail past)
              ]
            ])))
        | inr differ ↦ ap (λ w. digit w (at (place % bits))) (word_other (place / bits) differ)
      ]

  -- every place outside the part
  pub others-part : KeepsOthers bits at (slot_span slot) old new
  others-part place outside =
      bit-kept place (λ e from upto.
      let product : place / bits * bits ≡ slot.word * bits = ap (λ n. n * bits) e in
      let same : slot.word * bits + slot.head + (place % bits - slot.head) ≡ place = omega (arith, from, div-add-mod' place bits, product) in
      outside (subst (λ n. Covers bits (slot_span slot) (pos n)) same
      (covers_from (pos slot.word) bits slot.head (slot.tail - slot.head) (place % bits - slot.head) (omega (arith, ints))
      (omega (arith, from, upto)))))

-- the part of the k-th word that a span meets
module _ (bits : ℕ) (at : ℕ → ℕ) (span : Span) (k : ℕ) (after : ℕ → Bool) (old new : List ℕ) (word : ℕ) (in_head : span.head < bits)
    (fits : Fits bits span (length old)) (met : k < words_met bits span.head span.len)
    (put : new ≡ slice_set old (nat_abs span.word + k) word)
    (digits : (i : ℕ) → i < bits
    → digit word (at i) ≡ (if nat_le (part_head span.head k) i && nat_lt i (part_tail bits span.head span.len k) then after i else digit (slice_index old (nat_abs span.word + k)) (at i))) where
  abbrev slot : Slot
  slot = slot_of bits span k

  some_bits : 0 < bits
  some_bits = omega (arith, in_head)

  in_place : nat_abs span.word + k < length old
  in_place = omega (arith, fits.1, met)

  -- a place of the part is one of the span
  place-met : (place : ℕ) → place / bits ≡ nat_abs span.word + k → part_head span.head k ≤ place % bits
      → place % bits < part_tail bits span.head span.len k → Covers bits span (pos place)
  place-met place e from upto =
      let inside = inside-from_part bits span.head span.len k (place % bits) in_head (mod_below place bits some_bits) met from upto in
      let product : place / bits * bits ≡ nat_abs span.word * bits + k * bits = ap (λ n. n * bits) e ∙ omega arith in
      let j : ℕ = k * bits + place % bits - span.head in
      let same : nat_abs span.word * bits + span.head + j ≡ place = omega (arith, inside.0, inside.1, div-add-mod' place bits, product) in
      subst (λ n. Covers bits span (pos n)) same (covers-own bits span (length old) j fits (omega (arith, inside.0, inside.1)))

  -- the list after the edit
  list_of-put : (f : ℕ → Bool) → ((j : ℕ) → j < span.len → (span.head + j) / bits ≡ k → after ((span.head + j) % bits) ≡ f j)
      → list_of bits at span new ≡ with_word bits span.head (list_of bits at span old) k f
  list_of-put f says =
      rw (length-list_of bits at span old) (tabulate_same span.len _ _ false (λ j h.
      bit_of-span bits at span new j some_bits
      ∙ elim (cases_eq ((span.head + j) / bits) k) [
        | inl e ↦ (
            let parts = div-add-mod' (span.head + j) bits in
            let small = mod_below (span.head + j) bits some_bits in
            let product : (span.head + j) / bits * bits ≡ k * bits = ap (λ n. n * bits) e in
            let inside = part-from_inside bits span.head span.len k ((span.head + j) % bits) in_head small met (omega arith) (omega arith) in
            rw (eq-eqb ((span.head + j) / bits) k e, e) (digit_inside bits at slot after old new word some_bits in_place put digits
            ((span.head + j) % bits) small inside.0 inside.1 ∙ says j h e))
        | inr differ ↦ (
            rw (ne_eqb ((span.head + j) / bits) k differ) (
            ap (λ w. digit w (at ((span.head + j) % bits))) (word_other bits at slot after old new word some_bits in_place put digits
            (nat_abs span.word + (span.head + j) / bits) (λ e. differ (omega arith)))
            ∙ sym (element-list_of bits at span old j h ∙ bit_of-span bits at span old j some_bits)))
      ]))

  -- the span's list becomes the one with other bits in its word k, where `f` says them by their places in the list
  pub becomes-put : (f : ℕ → Bool) → ((j : ℕ) → j < span.len → (span.head + j) / bits ≡ k → after ((span.head + j) % bits) ≡ f j)
      → BecomesList bits at span old new (with_word bits span.head (list_of bits at span old) k f)
  becomes-put f says =
      becomes bits at span old new _ (list_of-put f says)
      (λ place out. bit-kept bits at slot after old new word some_bits in_place put digits place (λ e from upto. out (place-met place e from upto)))
      (ap length put ∙ length-set old (nat_abs span.word + k) word)

-- the same of an edit of the part
module _ (bits : ℕ) (at : ℕ → ℕ) (span : Span) (k : ℕ) (after : ℕ → Bool) (old new : List ℕ) (answer : ℕ)
    (law : IsOneToOne bits at) (in_head : span.head < bits) (fits : Fits bits span (length old)) (met : k < words_met bits span.head span.len)
    (edits : EditsPart bits at (slot_of bits span k) after old new answer) where
  pub becomes-edited : (f : ℕ → Bool) → ((j : ℕ) → j < span.len → (span.head + j) / bits ≡ k → after ((span.head + j) % bits) ≡ f j)
      → BecomesList bits at span old new (with_word bits span.head (list_of bits at span old) k f)
  becomes-edited = becomes-put bits at span k after old new (edited_word bits at (part_of bits span old k) after) in_head fits met edits.words
      (λ i h. digit-number_of_at bits at _ i law h)

  -- the answer is the word of the list
  pub word_of-answered : answer ≡ word_of bits at span.head (list_of bits at span old) k
  word_of-answered = edits.answered ∙ value_of-part_of bits at span old k in_head met
