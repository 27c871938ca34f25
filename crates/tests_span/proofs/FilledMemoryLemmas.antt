-- What a memory is, once the loans of a span's parts were filled.
use Rattle.std.proofs.Common.{◌≡◌, ℕ, ◌+◌, ◌-◌, ◌≤◌, ◌==◌, Bool, true, false, if◌then◌else◌, List, [], ◌∷◌, ◌++◌, replicate, length, map, take, drop, refl, sym, ap, ◌∙◌, arith}
use Rattle.std.proofs.lemmas.List.{take-map, drop-map, map-append, length-take-le, length-drop}
use Rattle.std.specs.Prelude.{nat_abs, Option, Some, None, option_map}
use Rattle.std.proofs.lemmas.Bool.{eqb-true}
use Rattle.bitvec_ptr.specs.Place.{words_met, tail_of}
use Rattle.bitvec_span.specs.Span.{Span}
use Rattle.bitvec_span.specs.Slot.{Slot, slot_at}
use Rattle.bitvec_span.specs.Loans.{Loans, is_inside, has_head, has_tail, words_before, body_words, head_slot, tail_slot, loan_at, span_loans}
use Rattle.bitvec_span.proofs.LoanLemmas.{rows, inside, heads, tails, loans-within}
use Rattle.tests_span.specs.FilledDomain.{word_of_bit, filled_slot_if, filled_loan, filled_loans, filled_memory, numbers_of_words}

-- the list that a loan ends as, or another where nothing was lent
abbrev pub end_or : {X : Type 0} → Option (List X) → List X → List X
end_or (Some l) v = l
end_or None v = v

-- a span inside one word has no whole words
pub inside-none : (bits : ℕ) (span : Span) → is_inside bits span ≡ true → body_words bits span ≡ 0
inside-none bits span =
    let met : ℕ = words_met bits span.head span.len in
    rows (span.len == 0) (span.head == 0) (tail_of bits span.head span.len == bits) (met == 1)
    (λ e b f o. inside e b f o ≡ true → met - (if heads e b then 1 else 0) - (if tails e b f o then 1 else 0) ≡ 0)
    (λ e t. absurd cc) (λ e t. absurd cc) (λ e t. absurd cc) (λ e t. absurd cc) (λ e o t. let one = eqb-true met 1 o in omega (arith, one)) (λ e o t. absurd cc)

module _ {R : Type 0} (number : R → ℕ) (bits : ℕ) (at : ℕ → ℕ) (bit : Bool) where
  numbers-or : (o : Option (List R)) (v : List R) → map number (end_or o v) ≡ end_or (option_map (map number) o) (map number v)
  numbers-or (Some l) v = refl
  numbers-or None v = refl

  part-filled : (b : Bool) (slot : Slot) (v : List R) → end_or (option_map (filled_loan number bits at bit) (loan_at v (if b then Some slot else None))) (map number v) ≡ filled_slot_if bits at bit (if b then Some slot else None) (map number v)
  part-filled true slot v = refl
  part-filled false slot v = refl

  body-filled : (b : Bool) (n : ℕ) (v : List R) → length v ≡ n → (b ≡ true → n ≡ 0)
      → end_or (option_map (λ (words : List R). replicate (length words) (word_of_bit bits bit)) (if b then None else Some v)) (map number v) ≡ replicate n (word_of_bit bits bit)
  body-filled true n v long none = ap (map number) (no_words v (long ∙ none refl)) ∙ ap (λ k. replicate k (word_of_bit bits bit)) (sym (none refl))
    where
      no_words : (v : List R) → length v ≡ 0 → v ≡ []
      no_words [] e = refl
      no_words (x ∷ xs) e = absurd (omega (arith, e))
  body-filled false n v long none = ap (λ k. replicate k (word_of_bit bits bit)) long

  -- the loans' last words, one behind the other
  pub filled-whole : (span : Span) (memory : List R) → nat_abs span.word + words_met bits span.head span.len ≤ length memory
      → (loans : Loans R) (ends : Option (List R) × Option (List R) × Option (List R)) → loans ≡ span_loans bits span memory → numbers_of_words number ends ≡ filled_loans number bits at bit loans
      → map number (end_or ends.0 (take (words_before span) memory)
      ++ (end_or ends.1 (take (body_words bits span) (drop (words_before span) memory)) ++ end_or ends.2 (drop (body_words bits span) (drop (words_before span) memory))))
      ≡ filled_memory bits at bit span (map number memory)
  filled-whole span memory fits loans ends lent filled =
      let i : ℕ = words_before span in
      let n : ℕ = body_words bits span in
      let v0 : List R = take i memory in
      let v1 : List R = take n (drop i memory) in
      let v2 : List R = drop n (drop i memory) in
      let within = loans-within bits span in
      let rest = length-drop i memory in
      let long : length v1 ≡ n = length-take-le n (drop i memory) (omega (arith, within, fits, rest)) in
      let all = filled ∙ ap (filled_loans number bits at bit) lent in
      let q0 = numbers-or ends.0 v0 ∙ (λ k. end_or (all k).0 (map number v0)) ∙ part-filled (has_head span) (slot_at bits span 0 (nat_abs span.word)) v0 in
      let q1 = numbers-or ends.1 v1 ∙ (λ k. end_or (all k).1 (map number v1)) ∙ body-filled (is_inside bits span) n v1 long (inside-none bits span) in
      let q2 = numbers-or ends.2 v2 ∙ (λ k. end_or (all k).2 (map number v2)) ∙ part-filled (has_tail bits span) (slot_at bits span (words_met bits span.head span.len - 1) 0) v2 in
      map-append number (end_or ends.0 v0) (end_or ends.1 v1 ++ end_or ends.2 v2)
      ∙ ap (λ l. map number (end_or ends.0 v0) ++ l) (map-append number (end_or ends.1 v1) (end_or ends.2 v2))
      ∙ (λ k. q0 k ++ (q1 k ++ q2 k))
      ∙ (λ k. filled_slot_if bits at bit (head_slot bits span) (sym (take-map number i memory) k)
      ++ (replicate n (word_of_bit bits bit) ++ filled_slot_if bits at bit (tail_slot bits span) ((sym (drop-map number n (drop i memory)) ∙ ap (drop n) (sym (drop-map number i memory))) k)))
