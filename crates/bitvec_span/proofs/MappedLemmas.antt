-- Lists whose bits in some of their words were mapped, and edits that make them.
use Rattle.std.proofs.Common.{◌≡◌, ℕ, ◌+◌, ◌-◌, ◌/◌, ◌%◌, ◌<◌, ◌≤◌, Bool, true, false, not, ◌&&◌, nat_le, nat_lt, if◌then◌else◌, List, map, length, refl, sym, ap, ◌∙◌, arith, inl, inr}
use Rattle.std.specs.Prelude.{slice_index, slice_set, nat_abs}
use Rattle.std.proofs.lemmas.List.{length-map, get_or-map}
use Rattle.std.proofs.lemmas.Nat.{div-add-mod', le-div}
use Rattle.std.proofs.lemmas.Bool.{cases_eq, cases_lt, eq-eqb, ne_eqb, le-leb, lt-leb, lt-ltb, le-ltb}
use Rattle.bitvec_mem.specs.Digit.{digit, exclusive_or}
use Rattle.bitvec_ptr.specs.Place.{words_met}
use Rattle.bitvec_ptr.proofs.MemoryLemmas.{tabulate_same, tabulate-from_elements, length-tabulate, get_or-tabulate}
use Rattle.bitvec_ptr.proofs.PlaceLemmas.{words_met-some}
use Rattle.bitvec_span.specs.Span.{Span, Fits, BecomesList, list_of, element, with_word}
use Rattle.bitvec_span.specs.Mapped.{with_mapped}
use Rattle.bitvec_span.specs.Parts.{part_head, part_tail}
use Rattle.bitvec_span.proofs.BecomesLemmas.{becomes, becomes-same, becomes-then}
use Rattle.bitvec_span.proofs.PartEditLemmas.{becomes-put}
use Rattle.bitvec_span.proofs.PartLemmas.{length-list_of, element-list_of, bit_of-span}

-- whether a word is one of some
among : (from upto w : ℕ) (a b : Bool) → from ≤ w → w < upto → (if nat_le from w && nat_lt w upto then a else b) ≡ a
among from upto w a b h k = rw (le-leb from w h, lt-ltb w upto k) refl

before : (from upto w : ℕ) (a b : Bool) → w < from → (if nat_le from w && nat_lt w upto then a else b) ≡ b
before from upto w a b h = rw (lt-leb from w h) refl

behind : (from upto w : ℕ) (a b : Bool) → from ≤ w → upto ≤ w → (if nat_le from w && nat_lt w upto then a else b) ≡ b
behind from upto w a b h k = rw (le-leb from w h, le-ltb w upto k) refl

module _ (f : Bool → Bool) (bits head : ℕ) (xs : List Bool) where
  abbrev word : ℕ → ℕ
  word j = (head + j) / bits

  abbrev image : ℕ → Bool
  image j = f (element xs j)

  -- no words
  mapped-none : (k : ℕ) → with_mapped f bits head xs k k ≡ xs
  mapped-none k =
      sym (tabulate-from_elements xs (length xs) _ false refl (λ j h. elim (cases_lt (word j) k) [
        | inl first ↦ sym (before k k (word j) (image j) (element xs j) first)
        | inr past ↦ sym (behind k k (word j) (image j) (element xs j) past past)
      ]))

  -- one word
  mapped-one : (k : ℕ) → with_word bits head xs k image ≡ with_mapped f bits head xs k (k + 1)
  mapped-one k =
      tabulate_same (length xs) _ _ false (λ j h. elim (cases_eq (word j) k) [
        | inl e ↦ (rw (eq-eqb (word j) k e) (sym (among k (k + 1) (word j) (image j) (element xs j) (omega (arith, e)) (omega (arith, e)))))
        | inr differ ↦ (rw (ne_eqb (word j) k differ) (elim (cases_lt (word j) k) [
          | inl first ↦ sym (before k (k + 1) (word j) (image j) (element xs j) first)
          | inr past ↦ sym (behind k (k + 1) (word j) (image j) (element xs j) past (omega (arith, past, differ)))
        ]))
      ])

  -- some words and those behind them
  mapped-joined : (a b c : ℕ) → a ≤ b → b ≤ c → with_mapped f bits head (with_mapped f bits head xs a b) b c ≡ with_mapped f bits head xs a c
  mapped-joined a b c rises more =
      let ys : List Bool = with_mapped f bits head xs a b in
      let long : length ys ≡ length xs = length-tabulate (length xs) _ in
      rw long (tabulate_same (length xs) _ _ false (λ j h.
      let was : element ys j ≡ (if nat_le a (word j) && nat_lt (word j) b then image j else element xs j) = get_or-tabulate (length xs) _ j false h in
      elim (cases_lt (word j) b) [
        | inl first ↦ (
            before b c (word j) (f (element ys j)) (element ys j) first ∙ was
            ∙ elim (cases_lt (word j) a) [
              | inl low ↦ before a b (word j) (image j) (element xs j) low ∙ sym (before a c (word j) (image j) (element xs j) low)
              | inr from ↦ (
                  among a b (word j) (image j) (element xs j) from first ∙ sym (among a c (word j) (image j) (element xs j) from (omega (arith, first, more))))
            ])
        | inr past ↦ (
            let same : element ys j ≡ element xs j = was ∙ behind a b (word j) (image j) (element xs j) (omega (arith, past, rises)) past in
            elim (cases_lt (word j) c) [
              | inl upto ↦ (
                  among b c (word j) (f (element ys j)) (element ys j) past upto ∙ ap f same
                  ∙ sym (among a c (word j) (image j) (element xs j) (omega (arith, past, rises)) upto))
              | inr beyond ↦ (
                  behind b c (word j) (f (element ys j)) (element ys j) past beyond ∙ same
                  ∙ sym (behind a c (word j) (image j) (element xs j) (omega (arith, past, rises)) beyond))
            ])
      ]))

  -- all words
  mapped-all : (n : ℕ) → ((j : ℕ) → j < length xs → word j < n) → with_mapped f bits head xs 0 n ≡ map f xs
  mapped-all n each =
      sym (tabulate-from_elements (map f xs) (length xs) _ false (length-map xs f) (λ j h.
      get_or-map f xs j false false h ∙ sym (among 0 n (word j) (image j) (element xs j) (omega arith) (each j h))))

-- a digit is turned over just where a mask has a one
pub turned_if : (b m : Bool) → exclusive_or b m ≡ (if m then not b else b)
turned_if true true = refl
turned_if true false = refl
turned_if false true = refl
turned_if false false = refl

module _ (f : Bool → Bool) (bits : ℕ) (at : ℕ → ℕ) (span : Span) (old : List ℕ) where
  abbrev first : List Bool
  first = list_of bits at span old

  -- the span's bits in its words from word a to before word b are mapped
  abbrev pub Maps : ℕ → ℕ → List ℕ → Type 0
  Maps a b new = BecomesList bits at span old new (with_mapped f bits span.head first a b)

  -- no words
  pub maps-none : (k : ℕ) → Maps k k old
  maps-none k = becomes bits at span old old _ (sym (mapped-none f bits span.head first k)) (λ place out. refl) refl

  -- the bits of one word
  pub word-maps : (k : ℕ) (new : List ℕ) (word : ℕ) → span.head < bits → Fits bits span (length old)
      → k < words_met bits span.head span.len → new ≡ slice_set old (nat_abs span.word + k) word
      → ((i : ℕ) → i < bits → digit word (at i)
      ≡ (if nat_le (part_head span.head k) i && nat_lt i (part_tail bits span.head span.len k)
      then f (digit (slice_index old (nat_abs span.word + k)) (at i)) else digit (slice_index old (nat_abs span.word + k)) (at i)))
      → Maps k (k + 1) new
  word-maps k new word in_head fits met put digits =
      becomes-same bits at span old new _ _ (mapped-one f bits span.head first k)
      (becomes-put bits at span k (λ i. f (digit (slice_index old (nat_abs span.word + k)) (at i))) old new word in_head fits met put digits
      (λ j. f (element first j))
      (λ j h e.
      ap f (sym (element-list_of bits at span old j h ∙ bit_of-span bits at span old j (omega (arith, in_head))
      ∙ ap (λ n. digit (slice_index old (nat_abs span.word + n)) (at ((span.head + j) % bits))) e))))

  -- a whole word
  pub whole-maps : (k : ℕ) (new : List ℕ) (word : ℕ) → span.head < bits → Fits bits span (length old) → 0 < k
      → k + 1 < words_met bits span.head span.len → new ≡ slice_set old (nat_abs span.word + k) word
      → ((i : ℕ) → i < bits → digit word (at i) ≡ f (digit (slice_index old (nat_abs span.word + k)) (at i))) → Maps k (k + 1) new
  whole-maps k new word in_head fits from upto put digits =
      let low : part_head span.head k ≡ 0 = rw (ne_eqb k 0 (λ e. omega (arith, e, from))) refl in
      let last = ne_eqb (k + 1) (words_met bits span.head span.len) (λ e. omega (arith, e, upto)) in
      let high : part_tail bits span.head span.len k ≡ bits = rw last refl in
      word-maps k new word in_head fits (omega (arith, upto)) put
      (λ i h. digits i h
      ∙ sym (among (part_head span.head k) (part_tail bits span.head span.len k) i _ _ (omega (arith, low)) (omega (arith, high, h))))

  -- one edit after the other
  pub maps-then : (a b c : ℕ) (mid new : List ℕ) → a ≤ b → b ≤ c → Maps a b mid
      → BecomesList bits at span mid new (with_mapped f bits span.head (list_of bits at span mid) b c) → Maps a c new
  maps-then a b c mid new rises more here there =
      becomes-same bits at span old new _ _
      (ap (λ (ys : List Bool). with_mapped f bits span.head ys b c) here.list ∙ mapped-joined f bits span.head first a b c rises more)
      (becomes-then bits at span old mid new _ _ here there)

  -- all words
  pub all-maps : (n : ℕ) (new : List ℕ) → 0 < bits → words_met bits span.head span.len ≤ n → Maps 0 n new
      → BecomesList bits at span old new (map f first)
  all-maps n new some met edit =
      let long : length first ≡ span.len = length-list_of bits at span old in
      becomes-same bits at span old new _ _
      (mapped-all f bits span.head first n (λ j h.
      let count = words_met-some bits span.head span.len (omega (arith, h, long)) in
      let row = le-div ((span.head + j) / bits) (span.head + span.len - 1) bits some (omega (arith, div-add-mod' (span.head + j) bits, h, long)) in
      omega (arith, count, row, met)))
      edit
