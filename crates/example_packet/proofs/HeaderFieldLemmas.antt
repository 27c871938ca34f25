-- What a store leaves in a field, and what a field is read as.
use Rattle.std.proofs.Common.{◌≡◌, ℕ, ◌+◌, ◌-◌, ◌*◌, ◌/◌, ◌%◌, ◌^◌, ◌<◌, ◌≤◌, ◌⊎◌, false, Bool, List, length, map, arith, inl, inr, subst, ap, refl, sym, ◌∙◌}
use Rattle.std.proofs.lemmas.List.{map-id}
use Rattle.std.proofs.lemmas.Int.{ints}
use Rattle.std.proofs.lemmas.Bool.{ne_eqb, eq-eqb}
use Rattle.bitvec.specs.Digit.{digit}
use Rattle.bitvec.specs.Order.{IsOneToOne}
use Rattle.bitvec.specs.Memory.{bit_of}
use Rattle.bitvec.specs.Span.{Span, Fits, list_of, element, word_of}
use Rattle.bitvec.specs.Place.{words_met}
use Rattle.bitvec.specs.Slot.{Slot, slot_of, EditsPart}
use Rattle.bitvec.specs.Commands.{outcome, list_in}
use Rattle.bitvec.specs.Run.{IsStep}
use Rattle.bitvec.specs.declared.run.command.Command.TheVariants.{Store}
use Rattle.bitvec.specs.declared.run.command.Reply.TheVariants.{Word}
use Rattle.bitvec.proofs.CommandLemmas.{step-store}
use Rattle.bitvec.proofs.MemoryLemmas.{get_or-tabulate}
use Rattle.bitvec.proofs.PartLemmas.{element-list_of, length-list_of}
use Rattle.example_packet.specs.Field.{field_span, lowest_of, HasNumber, number_in}

-- a field lies in one word
pub one_word : (start len : ℕ) → 1 ≤ len → start + len ≤ 32 → words_met 32 start len ≡ 1
one_word start len some in_word =
    let quotient : (start + len - 1) / 32 + 1 ≡ 1 = omega (arith, some, in_word) in
    rw (ne_eqb len 0 (λ e. omega (arith, some, e))) quotient

-- a field's list after a value was stored in it
abbrev pub stored_list : (ℕ → ℕ) → ℕ → ℕ → List Bool → List Bool
stored_list at start value xs = list_in xs (outcome (λ n. n) 32 at start (Store 0 value) xs)

-- its bit j
stored-element : (at : ℕ → ℕ) (start len value : ℕ) (old : List ℕ) (j : ℕ) → 1 ≤ len → start + len ≤ 32 → j < len
    → element (stored_list at start value (list_of 32 at (field_span start len) old)) j ≡ digit value (at (start + j))
stored-element at start len value old j some in_word h =
    let row : (start + j) / 32 ≡ 0 = omega (arith, in_word, h) in
    let index : (start + j) % 32 ≡ start + j = omega (arith, in_word, h) in
    rw (length-list_of 32 at (field_span start len) old, one_word start len some in_word)
    (get_or-tabulate len _ j false h ∙ (rw (eq-eqb ((start + j) / 32) 0 row, index) refl))

-- the bit at each place of a field that has the list of a stored value
pub stored : (at : ℕ → ℕ) (start len value : ℕ) (old new : List ℕ) → 1 ≤ len → start + len ≤ 32
    → list_of 32 at (field_span start len) new ≡ stored_list at start value (list_of 32 at (field_span start len) old)
    → (place : ℕ) → start ≤ place → place < start + len → bit_of 32 at new place ≡ digit value (at place)
stored at start len value old new some in_word same place from upto =
    let j = place - start in
    let h : j < len = omega (arith, from, upto) in
    let here : 0 * 32 + start + j ≡ place = omega (arith, from) in
    let index : start + j ≡ place = omega (arith, from) in
    subst (λ p. bit_of 32 at new p ≡ digit value (at place)) here
    (sym (element-list_of 32 at (field_span start len) new j h) ∙ ap (λ xs. element xs j) same ∙ stored-element at start len value old j some in_word h ∙ ap (λ p. digit value (at p)) index)

-- a value that is a number shifted up to the field
pub has_number : (at : ℕ → ℕ) (start len number lowest : ℕ) (words : List ℕ) → lowest ≡ lowest_of at start len
    → ((place : ℕ) → start ≤ place → place < start + len → bit_of 32 at words place ≡ digit (number * 2 ^ lowest % 2 ^ 32) (at place)) → HasNumber at start len number words
has_number at start len number lowest words is h =
    subst (λ l. (place : ℕ) → start ≤ place → place < start + len → bit_of 32 at words place ≡ digit (number * 2 ^ l % 2 ^ 32) (at place)) is h

module _ (at : ℕ → ℕ) (start len value : ℕ) (span : Span) (slot : Slot) (old before after new : List ℕ) (answer : ℕ)
    (law : IsOneToOne 32 at) (some : 1 ≤ len) (in_word : start + len ≤ 32) (room : 1 ≤ length old)
    (is_span : span ≡ field_span start len) (is_slot : slot ≡ slot_of 32 span 0) (is_memory : before ≡ old)
    (edits : EditsPart 32 at slot (λ i. digit value (at i)) (map (λ w. w) before) (map (λ w. w) after) answer) (is_new : after ≡ new) where
  -- a store in a field's part is a step through its span
  step : IsStep (λ n. n) 32 at (field_span start len) old (Store 0 value) (Word answer) new
  step =
      let field = field_span start len in
      let one = one_word start len some in_word in
      let fits : Fits 32 field (length old) = (omega (arith, ints), omega (arith, room, one)) in
      let met : 0 < words_met 32 start len = omega (arith, one) in
      let slot_same : slot ≡ slot_of 32 field 0 = is_slot ∙ ap (λ s. slot_of 32 s 0) is_span in
      let edits : EditsPart 32 at (slot_of 32 field 0) (λ i. digit value (at i)) old new answer =
      subst (λ s. EditsPart 32 at s (λ i. digit value (at i)) old new answer) slot_same
      (subst (λ ws. EditsPart 32 at slot (λ i. digit value (at i)) ws new answer) (map-id before ∙ is_memory)
      (subst (λ ws. EditsPart 32 at slot (λ i. digit value (at i)) (map (λ w. w) before) ws answer) (map-id after ∙ is_new) edits)) in
      step-store (λ n. n) 32 at field old new 0 answer law (omega (arith, some, in_word)) fits met value edits

  -- every bit before the field and behind it stays
  pub outside_same : (place : ℕ) → (place < start) ⊎ (start + len ≤ place) → bit_of 32 at new place ≡ bit_of 32 at old place
  outside_same place out =
      step.becomes.others place
      (λ covers. elim out [
        | inl before ↦ omega (arith, ints, before, covers.0)
        | inr behind ↦ omega (arith, ints, behind, covers.1)
      ])

  -- the field has the value's digits
  pub inside_stored : (place : ℕ) → start ≤ place → place < start + len → bit_of 32 at new place ≡ digit value (at place)
  inside_stored = stored at start len value old new some in_word step.becomes.list

-- the word of a field's bits, shifted down
pub number_in-from : (at : ℕ → ℕ) (start len value lowest : ℕ) (span : Span) (words : List ℕ) → span ≡ field_span start len → value ≡ word_of 32 at span.head (list_of 32 at span (map (λ w. w) words)) 0 → lowest ≡ lowest_of at start len
    → value / 2 ^ lowest ≡ number_in at start len words
number_in-from at start len value lowest span words is_span is_value is_lowest =
    ap (λ v. v / 2 ^ lowest) is_value
    ∙ ap (λ (s : Span). word_of 32 at s.head (list_of 32 at s (map (λ w. w) words)) 0 / 2 ^ lowest) is_span
    ∙ ap (λ ws. word_of 32 at start (list_of 32 at (field_span start len) ws) 0 / 2 ^ lowest) (map-id words)
    ∙ ap (λ l. word_of 32 at start (list_of 32 at (field_span start len) words) 0 / 2 ^ l) is_lowest
