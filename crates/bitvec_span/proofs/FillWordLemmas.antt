-- Lists whose bits in some of their words were made the same, and edits that make them.
use Rattle.std.proofs.Common.{◌≡◌, ℕ, ◌+◌, ◌-◌, ◌/◌, ◌<◌, ◌≤◌, Bool, false, ◌&&◌, nat_le, nat_lt, if◌then◌else◌, List, replicate, length, refl, sym, ap, ◌∙◌, arith, inl, inr}
use Rattle.std.specs.Prelude.{slice_index, slice_set, nat_abs}
use Rattle.std.proofs.lemmas.List.{get_or-replicate, length-replicate}
use Rattle.std.proofs.lemmas.Nat.{div-add-mod', le-div}
use Rattle.std.proofs.lemmas.Bool.{cases_eq, cases_lt, eq-eqb, ne_eqb, le-leb, lt-leb, lt-ltb, le-ltb}
use Rattle.bitvec_mem.specs.Digit.{digit}
use Rattle.bitvec_order.specs.Order.{IsOneToOne, IsMaskOf}
use Rattle.bitvec_order.proofs.IndexLemmas.{digit-mask_at}
use Rattle.bitvec_ptr.specs.Place.{words_met}
use Rattle.bitvec_ptr.proofs.MemoryLemmas.{tabulate_same, tabulate-from_elements, length-tabulate, get_or-tabulate}
use Rattle.bitvec_ptr.proofs.PlaceLemmas.{words_met-some}
use Rattle.bitvec_span.specs.Span.{Span, Fits, BecomesList, list_of, element, with_word, with_words}
use Rattle.bitvec_span.specs.Parts.{part_head, part_tail}
use Rattle.bitvec_span.proofs.BecomesLemmas.{becomes, becomes-same, becomes-then}
use Rattle.bitvec_span.proofs.PartEditLemmas.{becomes-put}
use Rattle.bitvec_span.proofs.PartLemmas.{length-list_of, part_tail-most}

-- whether a word is one of some
among : (from upto w : ℕ) (bit b : Bool) → from ≤ w → w < upto → (if nat_le from w && nat_lt w upto then bit else b) ≡ bit
among from upto w bit b h k = rw (le-leb from w h, lt-ltb w upto k) refl

before : (from upto w : ℕ) (bit b : Bool) → w < from → (if nat_le from w && nat_lt w upto then bit else b) ≡ b
before from upto w bit b h = rw (lt-leb from w h) refl

behind : (from upto w : ℕ) (bit b : Bool) → from ≤ w → upto ≤ w → (if nat_le from w && nat_lt w upto then bit else b) ≡ b
behind from upto w bit b h k = rw (le-leb from w h, le-ltb w upto k) refl

module _ (bits head : ℕ) (xs : List Bool) (bit : Bool) where
  abbrev word : ℕ → ℕ
  word j = (head + j) / bits

  -- no words
  words-none : (k : ℕ) → with_words bits head xs k k bit ≡ xs
  words-none k =
      sym (tabulate-from_elements xs (length xs) _ false refl (λ j h. elim (cases_lt (word j) k) [
        | inl first ↦ sym (before k k (word j) bit (element xs j) first)
        | inr past ↦ sym (behind k k (word j) bit (element xs j) past past)
      ]))

  -- one word
  words-one : (k : ℕ) → with_word bits head xs k (λ j. bit) ≡ with_words bits head xs k (k + 1) bit
  words-one k =
      tabulate_same (length xs) _ _ false (λ j h. elim (cases_eq (word j) k) [
        | inl e ↦ (rw (eq-eqb (word j) k e) (sym (among k (k + 1) (word j) bit (element xs j) (omega (arith, e)) (omega (arith, e)))))
        | inr differ ↦ (rw (ne_eqb (word j) k differ) (elim (cases_lt (word j) k) [
          | inl first ↦ sym (before k (k + 1) (word j) bit (element xs j) first)
          | inr past ↦ sym (behind k (k + 1) (word j) bit (element xs j) past (omega (arith, past, differ)))
        ]))
      ])

  -- some words and those behind them
  words-joined : (a b c : ℕ) → a ≤ b → b ≤ c → with_words bits head (with_words bits head xs a b bit) b c bit ≡ with_words bits head xs a c bit
  words-joined a b c rises more =
      let ys : List Bool = with_words bits head xs a b bit in
      let long : length ys ≡ length xs = length-tabulate (length xs) _ in
      rw long (tabulate_same (length xs) _ _ false (λ j h.
      let was : element ys j ≡ (if nat_le a (word j) && nat_lt (word j) b then bit else element xs j) = get_or-tabulate (length xs) _ j false h in
      elim (cases_lt (word j) b) [
        | inl first ↦ (
            before b c (word j) bit (element ys j) first ∙ was
            ∙ elim (cases_lt (word j) a) [
              | inl low ↦ before a b (word j) bit (element xs j) low ∙ sym (before a c (word j) bit (element xs j) low)
              | inr from ↦ (
                  among a b (word j) bit (element xs j) from first ∙ sym (among a c (word j) bit (element xs j) from (omega (arith, first, more))))
            ])
        | inr past ↦ elim (cases_lt (word j) c) [
          | inl upto ↦ among b c (word j) bit (element ys j) past upto ∙ sym (among a c (word j) bit (element xs j) (omega (arith, past, rises)) upto)
          | inr beyond ↦ (
              behind b c (word j) bit (element ys j) past beyond ∙ was
              ∙ behind a b (word j) bit (element xs j) (omega (arith, past, rises)) past
              ∙ sym (behind a c (word j) bit (element xs j) (omega (arith, past, rises)) beyond))
        ]
      ]))

  -- all words
  words-all : (n : ℕ) → ((j : ℕ) → j < length xs → word j < n) → with_words bits head xs 0 n bit ≡ replicate (length xs) bit
  words-all n each =
      sym (tabulate-from_elements (replicate (length xs) bit) (length xs) _ false (length-replicate (length xs) bit) (λ j h.
      get_or-replicate (length xs) j bit false h ∙ sym (among 0 n (word j) bit (element xs j) (omega arith) (each j h))))

module _ (bits : ℕ) (at : ℕ → ℕ) (span : Span) (bit : Bool) (old : List ℕ) where
  abbrev first : List Bool
  first = list_of bits at span old

  -- the span's bits in its words from word a to before word b are made the same
  abbrev pub Fills : ℕ → ℕ → List ℕ → Type 0
  Fills a b new = BecomesList bits at span old new (with_words bits span.head first a b bit)

  -- no words
  pub fills-none : (k : ℕ) → Fills k k old
  fills-none k = becomes bits at span old old _ (sym (words-none bits span.head first bit k)) (λ place out. refl) refl

  -- the part in one word, by a mask of its positions
  pub part-fills : (k : ℕ) (new : List ℕ) (mask word : ℕ) → IsOneToOne bits at → span.head < bits → Fits bits span (length old)
      → k < words_met bits span.head span.len → IsMaskOf bits at (part_head span.head k) (part_tail bits span.head span.len k) mask
      → new ≡ slice_set old (nat_abs span.word + k) word
      → ((p : ℕ) → p < bits → digit word p ≡ (if digit mask p then bit else digit (slice_index old (nat_abs span.word + k)) p)) → Fills k (k + 1) new
  part-fills k new mask word law in_head fits met ones put digits =
      becomes-same bits at span old new _ _ (words-one bits span.head first bit k)
      (becomes-put bits at span k (λ i. bit) old new word in_head fits met put
      (λ i h. digits (at i) (law.below i h)
      ∙ ap (λ b. if b then bit else digit (slice_index old (nat_abs span.word + k)) (at i))
      (digit-mask_at bits at (part_head span.head k) (part_tail bits span.head span.len k) mask i law (part_tail-most bits span.head span.len k (omega (arith, in_head)) met) ones h))
      (λ j. bit) (λ j h e. refl))

  -- a whole word
  pub word-fills : (k : ℕ) (new : List ℕ) (word : ℕ) → IsOneToOne bits at → span.head < bits → Fits bits span (length old) → 0 < k
      → k + 1 < words_met bits span.head span.len → new ≡ slice_set old (nat_abs span.word + k) word
      → ((p : ℕ) → p < bits → digit word p ≡ bit) → Fills k (k + 1) new
  word-fills k new word law in_head fits from upto put digits =
      let low : part_head span.head k ≡ 0 = rw (ne_eqb k 0 (λ e. omega (arith, e, from))) refl in
      let last = ne_eqb (k + 1) (words_met bits span.head span.len) (λ e. omega (arith, e, upto)) in
      let high : part_tail bits span.head span.len k ≡ bits = rw last refl in
      becomes-same bits at span old new _ _ (words-one bits span.head first bit k)
      (becomes-put bits at span k (λ i. bit) old new word in_head fits (omega (arith, upto)) put
      (λ i h. digits (at i) (law.below i h)
      ∙ sym (among (part_head span.head k) (part_tail bits span.head span.len k) i bit _ (omega (arith, low)) (omega (arith, high, h))))
      (λ j. bit) (λ j h e. refl))

  -- one edit after the other
  pub fills-then : (a b c : ℕ) (mid new : List ℕ) → a ≤ b → b ≤ c → Fills a b mid
      → BecomesList bits at span mid new (with_words bits span.head (list_of bits at span mid) b c bit) → Fills a c new
  fills-then a b c mid new rises more here there =
      becomes-same bits at span old new _ _
      (ap (λ (ys : List Bool). with_words bits span.head ys b c bit) here.list ∙ words-joined bits span.head first bit a b c rises more)
      (becomes-then bits at span old mid new _ _ here there)

  -- all words
  pub all-fills : (n : ℕ) (new : List ℕ) → 0 < bits → words_met bits span.head span.len ≤ n → Fills 0 n new
      → BecomesList bits at span old new (replicate span.len bit)
  all-fills n new some met edit =
      let long : length first ≡ span.len = length-list_of bits at span old in
      becomes-same bits at span old new _ _
      (words-all bits span.head first bit n (λ j h.
      let count = words_met-some bits span.head span.len (omega (arith, h, long)) in
      let row = le-div ((span.head + j) / bits) (span.head + span.len - 1) bits some (omega (arith, div-add-mod' (span.head + j) bits, h, long)) in
      omega (arith, count, row, met))
      ∙ ap (λ n. replicate n bit) long)
      edit
