-- What the bits of a memory are, once the first bit of each stretch of a span was set.
use Rattle.std.proofs.Common.{◌≡◌, ℕ, ◌+◌, ◌-◌, ◌*◌, ◌≤◌, ◌==◌, Bool, true, false, not, if◌then◌else◌, List, [], ◌++◌, length, map, take, drop, refl, sym, ap, ◌∙◌, inl, inr, arith}
use Rattle.std.proofs.lemmas.List.{take-map, drop-map, map-append, length-take-le, length-drop}
use Rattle.std.proofs.lemmas.Bool.{cases_lt}
use Rattle.std.specs.Prelude.{nat_abs, Option, Some, None, is_some, option_map, slice_set}
use Rattle.bitvec_ptr.specs.Memory.{tabulate, bit_of, memory_bits}
use Rattle.bitvec_ptr.specs.Place.{words_met}
use Rattle.bitvec_span.specs.Span.{Span}
use Rattle.bitvec_span.specs.Slot.{Slot, slot_at}
use Rattle.bitvec_span.specs.Stretch.{slot_stretch, whole_stretch}
use Rattle.bitvec_span.specs.Loans.{Loan, Loans, is_inside, has_head, has_tail, words_before, body_words, head_slot, tail_slot, loan_at, span_loans}
use Rattle.bitvec_span.specs.BitLoans.{BitLoans, stretch_loan, stretch_loans}
use Rattle.bitvec_span.proofs.AppendLemmas.{memory_bits-append}
use Rattle.bitvec_span.proofs.LoanLemmas.{true_false, loans-within, inside-alone}
use Rattle.tests_span.specs.LentBits.{first_set, first_set_if, first_set_of, firsts_set_of, loan_bits, firsts_set}
use Rattle.tests_span.proofs.FilledMemoryLemmas.{inside-none}

-- the words behind the loans of a domain of bits, or others where nothing is lent
abbrev pub ends_or : {R : Type 0} → Bool → Bool → BitLoans R → List R × List R × List R → List R × List R × List R
ends_or head tail (first, None) v = (first.words, v.1, v.2)
ends_or head tail (first, Some (body, last)) v = ((if head then first.words else v.0), body.words, (if tail then last.words else v.2))

abbrev value_or : {X : Type 0} → X → Option X → X
value_or x (Some y) = y
value_or x None = x

-- the bits of words behind others, of a register of no bits too
bits-append : (bits : ℕ) (at : ℕ → ℕ) (xs ys : List ℕ) → memory_bits bits at (xs ++ ys) ≡ memory_bits bits at xs ++ memory_bits bits at ys
bits-append bits at xs ys = elim (cases_lt 0 bits) [
  | inl some ↦ memory_bits-append bits at xs ys some
  | inr most ↦ none most (xs ++ ys) ∙ sym (λ k. none most xs k ++ none most ys k)
]
  where
    none : bits ≤ 0 → (words : List ℕ) → memory_bits bits at words ≡ []
    none most words =
        let e : bits ≡ 0 = omega arith in
        let z : length words * 0 ≡ 0 = omega arith in
        ap (λ n. tabulate n (bit_of bits at words)) (ap (λ b. length words * b) e ∙ z)

module _ {R : Type 0} (number : R → ℕ) (bits : ℕ) (at : ℕ → ℕ) where
  abbrev Three : Type 0
  Three = List R × List R × List R

  abbrev Lists : Type 0
  Lists = List Bool × Option (List Bool × List Bool)

  abbrev mb : List R → List Bool
  mb words = memory_bits bits at (map number words)

  abbrev loan_if : Bool → Slot → List R → Option (Loan R Slot)
  loan_if b slot words = loan_at words (if b then Some slot else None)

  -- the bits of a part of a memory, with the first bit of a stretch set that may not be there
  abbrev set_if : Bool → Slot → List R → List Bool
  set_if b slot words = first_set_if bits at (option_map slot_stretch (if b then Some slot else None)) (map number words)

  or_kept : (b : Bool) (slot : Slot) (own other : List R) → mb own ≡ first_set_of number bits at (stretch_loan (loan_if b slot other)) → mb (if b then own else other) ≡ set_if b slot other
  or_kept true slot own other e = e
  or_kept false slot own other e = refl

  -- the bits of each of the three parts of a memory
  abbrev AreSet : Bool → Bool → Slot → Slot → ℕ → Three → Three → Type 0
  AreSet head tail s0 s2 n v w = (mb w.0 ≡ set_if head s0 v.0) × (mb w.1 ≡ first_set bits at (whole_stretch bits n) (map number v.1)) × (mb w.2 ≡ set_if tail s2 v.2)

  abbrev lent : Bool → Bool → Bool → Slot → Slot → Three → Loans R
  lent head tail inside s0 s2 v = (loan_if head s0 v.0, (if inside then None else Some v.1), loan_if tail s2 v.2)

  -- no words have no first bit
  none-set : (n : ℕ) (v : List R) → length v ≡ n → n ≡ 0 → mb v ≡ first_set bits at (whole_stretch bits n) (map number v)
  none-set n v long none =
      let z : 0 * bits ≡ 0 = omega arith in
      sym (ap (λ k. if k == 0 then mb v else slice_set (mb v) (0 * bits + (0 + 0)) true) (ap (λ k. k * bits) none ∙ z))

  alone-ends : (head tail : Bool) (s0 s2 : Slot) (n : ℕ) (v : Three) → length v.1 ≡ n → head ≡ true → tail ≡ false → n ≡ 0
      → (after : BitLoans R) → loan_bits number bits at after ≡ firsts_set_of number bits at (stretch_loans bits (lent head tail true s0 s2 v)) → AreSet head tail s0 s2 n v (ends_or head tail after v)
  alone-ends false tail s0 s2 n v long h t none after e = absurd (true_false (sym h))
  alone-ends true true s0 s2 n v long h t none after e = absurd (true_false t)
  alone-ends true false s0 s2 n v long h t none (first, Some others) e = absurd (true_false (ap (λ (p : Lists). is_some p.1) e))
  alone-ends true false s0 s2 n v long h t none (first, None) e = (ap (λ (p : Lists). p.0) e, none-set n v.1 long none, refl)

  region-ends : (head tail : Bool) (s0 s2 : Slot) (n : ℕ) (v : Three) → length v.1 ≡ n
      → (after : BitLoans R) → loan_bits number bits at after ≡ firsts_set_of number bits at (stretch_loans bits (lent head tail false s0 s2 v)) → AreSet head tail s0 s2 n v (ends_or head tail after v)
  region-ends head tail s0 s2 n v long (first, None) e = absurd (true_false (ap (λ (p : Lists). is_some p.1) (sym e)))
  region-ends head tail s0 s2 n v long (first, Some (body, last)) e =
      let others = ap (λ (p : Lists). value_or ([], []) p.1) e in (
        or_kept head s0 first.words v.0 (ap (λ (p : Lists). p.0) e),
        ap (λ (p : List Bool × List Bool). p.0) others ∙ ap (λ k. first_set bits at (whole_stretch bits k) (map number v.1)) long,
        or_kept tail s2 last.words v.2 (ap (λ (p : List Bool × List Bool). p.1) others),
      )

  three-ends : (head tail inside : Bool) (s0 s2 : Slot) (n : ℕ) (v : Three) → length v.1 ≡ n → (not inside ≡ false → (head ≡ true) × (tail ≡ false)) → (inside ≡ true → n ≡ 0)
      → (after : BitLoans R) → loan_bits number bits at after ≡ firsts_set_of number bits at (stretch_loans bits (lent head tail inside s0 s2 v)) → AreSet head tail s0 s2 n v (ends_or head tail after v)
  three-ends head tail true s0 s2 n v long alone none after e = alone-ends head tail s0 s2 n v long (alone refl).0 (alone refl).1 (none refl) after e
  three-ends head tail false s0 s2 n v long alone none after e = region-ends head tail s0 s2 n v long after e

  -- the loans' last words, one behind the other
  pub firsts-whole : (span : Span) (memory : List R) → nat_abs span.word + words_met bits span.head span.len ≤ length memory
      → (before after : BitLoans R) → before ≡ stretch_loans bits (span_loans bits span memory) → loan_bits number bits at after ≡ firsts_set_of number bits at before
      → let w = ends_or (has_head span) (has_tail bits span) after (take (words_before span) memory, take (body_words bits span) (drop (words_before span) memory), drop (body_words bits span) (drop (words_before span) memory)) in
      mb (w.0 ++ (w.1 ++ w.2)) ≡ firsts_set bits at span (map number memory)
  firsts-whole span memory fits before after lends set =
      let i : ℕ = words_before span in
      let n : ℕ = body_words bits span in
      let v : Three = (take i memory, take n (drop i memory), drop n (drop i memory)) in
      let w : Three = ends_or (has_head span) (has_tail bits span) after v in
      let within = loans-within bits span in
      let rest = length-drop i memory in
      let long : length v.1 ≡ n = length-take-le n (drop i memory) (omega (arith, within, fits, rest)) in
      let s0 : Slot = slot_at bits span 0 (nat_abs span.word) in
      let s2 : Slot = slot_at bits span (words_met bits span.head span.len - 1) 0 in
      let all = three-ends (has_head span) (has_tail bits span) (is_inside bits span) s0 s2 n v long (inside-alone bits span) (inside-none bits span) after (set ∙ ap (firsts_set_of number bits at) lends) in
      ap (memory_bits bits at) (map-append number w.0 (w.1 ++ w.2) ∙ ap (λ l. map number w.0 ++ l) (map-append number w.1 w.2))
      ∙ bits-append bits at (map number w.0) (map number w.1 ++ map number w.2)
      ∙ ap (λ l. mb w.0 ++ l) (bits-append bits at (map number w.1) (map number w.2))
      ∙ (λ k. all.0 k ++ (all.1 k ++ all.2 k))
      ∙ (λ k. first_set_if bits at (option_map slot_stretch (head_slot bits span)) (sym (take-map number i memory) k)
      ++ (first_set bits at (whole_stretch bits n) ((sym (take-map number n (drop i memory)) ∙ ap (take n) (sym (drop-map number i memory))) k)
      ++ first_set_if bits at (option_map slot_stretch (tail_slot bits span)) ((sym (drop-map number n (drop i memory)) ∙ ap (drop n) (sym (drop-map number i memory))) k)))
