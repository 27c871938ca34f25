-- One command through a span, from what an edit of the span or of one part of it does.
use Rattle.std.proofs.Common.{◌≡◌, ℕ, ◌+◌, ◌/◌, ◌%◌, ◌<◌, ◌≤◌, Bool, true, false, not, ◌&&◌, nat_le, nat_lt, List, length, Some, None, arith, sym, ◌∙◌, ap, refl, subst, inl, inr}
use Rattle.std.specs.Prelude.{nat_abs, slice_index, slice_set, swap}
use Rattle.std.proofs.lemmas.Bool.{le-leb, lt-leb, lt-ltb, le-ltb, cases_lt}
use Rattle.bitvec_mem.specs.Digit.{digit}
use Rattle.bitvec_order.specs.Order.{IsOneToOne}
use Rattle.bitvec_ptr.specs.Memory.{list_with_copy}
use Rattle.bitvec_ptr.specs.Place.{words_met}
use Rattle.bitvec_span.specs.Span.{Span, Fits, BecomesList, list_of, element, word_of, with_word, with_filled}
use Rattle.bitvec_span.specs.Slot.{slot_of, EditsPart}
use Rattle.bitvec_span.proofs.BecomesLemmas.{becomes, becomes-same}
use Rattle.bitvec_span.proofs.PartEditLemmas.{becomes-edited, word_of-answered}
use Rattle.bitvec_span.proofs.PartLemmas.{bit_of-span, element-list_of, length-list_of}
use Rattle.bitvec.specs.declared.run.command.Command.{Command}
use Rattle.bitvec.specs.declared.run.command.Command.TheVariants.{Load, Store, Set, Clear, Invert, Read, Replace, Swap, Copy, Fill}
use Rattle.bitvec.specs.declared.run.command.Reply.{Reply}
use Rattle.bitvec.specs.declared.run.command.Reply.TheVariants.{Word, Bit, Done, PastEnd}
use Rattle.bitvec.specs.Commands.{when, on_word, outcome, reply_in, list_in}
use Rattle.bitvec.specs.Laws.{AreSameCommands, IsSameNumber}
use Rattle.bitvec.specs.Run.{IsStep}

-- when a swap, a copy or a fill is past the end
swap_past : (i j n : ℕ) → (i < n → j < n → ⊥) → (nat_lt i n && nat_lt j n) ≡ false
swap_past i j n never =
    elim (cases_lt i n) [
      | inl p ↦ elim (cases_lt j n) [
        | inl q ↦ absurd (never p q)
        | inr q ↦ (rw (lt-ltb i n p, le-ltb j n q) refl)
      ]
      | inr p ↦ (rw (le-ltb i n p) refl)
    ]

copy_past : (a b n : ℕ) → (a ≤ n → b ≤ n → ⊥) → (nat_le a n && nat_le b n) ≡ false
copy_past a b n never =
    elim (cases_lt n a) [
      | inl p ↦ (rw (lt-leb a n p) refl)
      | inr p ↦ elim (cases_lt n b) [
        | inl q ↦ (rw (le-leb a n p, lt-leb b n q) refl)
        | inr q ↦ absurd (never p q)
      ]
    ]

fill_past : (from to n : ℕ) → (from ≤ to → to ≤ n → ⊥) → (nat_le from to && nat_le to n) ≡ false
fill_past from to n never =
    elim (cases_lt to from) [
      | inl p ↦ (rw (lt-leb from to p) refl)
      | inr p ↦ elim (cases_lt n to) [
        | inl q ↦ (rw (le-leb from to p, lt-leb to n q) refl)
        | inr q ↦ absurd (never p q)
      ]
    ]

-- with no edit the span keeps its list
becomes-own : (bits : ℕ) (at : ℕ → ℕ) (span : Span) (memory : List ℕ)
    → BecomesList bits at span memory memory (list_of bits at span memory)
becomes-own bits at span memory = becomes bits at span memory memory _ refl (λ place out. refl) refl

-- a command within its list, and one past its end
when-true : (within : Bool) (reply : Reply ℕ) (xs : List Bool) → within ≡ true → when within reply xs ≡ Some (reply, xs)
when-true within reply xs e = ap (λ b. when b reply xs) e

when-false : (within : Bool) (reply : Reply ℕ) (xs : List Bool) → within ≡ false → when within reply xs ≡ None
when-false within reply xs e = ap (λ b. when b reply xs) e

module _ {W : Type 0} (number : W → ℕ) (bits : ℕ) (at : ℕ → ℕ) (span : Span) (old new : List ℕ) where
  abbrev xs : List Bool
  xs = list_of bits at span old

  -- a command past the end, where the memory is as before
  step-past : (command : Command W) → outcome number bits at span.head command xs ≡ None → new ≡ old → IsStep number bits at span old command PastEnd new
  step-past command none kept =
      subst (λ m. IsStep number bits at span old command PastEnd m) (sym kept) (record {
        answered = sym (ap reply_in none);
        becomes = becomes-same bits at span old old _ _ (sym (ap (list_in xs) none)) (becomes-own bits at span old);
      })

  -- a command that is not
  step-within : (command : Command W) (reply answer : Reply ℕ) (ys : List Bool) → outcome number bits at span.head command xs ≡ Some (answer, ys)
      → reply ≡ answer → BecomesList bits at span old new ys → IsStep number bits at span old command reply new
  step-within command reply answer ys some answered edit = record {
    answered = answered ∙ sym (ap reply_in some);
    becomes = becomes-same bits at span old new _ _ (sym (ap (list_in xs) some)) edit;
  }

  -- the tests of words and of bits
  has_word : (k : ℕ) → k < words_met bits span.head span.len → nat_lt k (words_met bits span.head (length xs)) ≡ true
  has_word k h = rw (length-list_of bits at span old) (lt-ltb k (words_met bits span.head span.len) h)

  no_word : (k : ℕ) → words_met bits span.head span.len ≤ k → nat_lt k (words_met bits span.head (length xs)) ≡ false
  no_word k h = rw (length-list_of bits at span old) (le-ltb k (words_met bits span.head span.len) h)

  has_bit : (i : ℕ) → i < span.len → nat_lt i (length xs) ≡ true
  has_bit i h = rw (length-list_of bits at span old) (lt-ltb i span.len h)

  no_bit : (i : ℕ) → span.len ≤ i → nat_lt i (length xs) ≡ false
  no_bit i h = rw (length-list_of bits at span old) (le-ltb i span.len h)

  -- commands past the end: to a word, to a bit, and to more
  pub past-word : (command : Command W) (k : ℕ) (ys : List Bool) → outcome number bits at span.head command xs ≡ on_word bits at span.head xs k ys
      → words_met bits span.head span.len ≤ k → new ≡ old → IsStep number bits at span old command PastEnd new
  past-word command k ys is h = step-past command (is ∙ when-false _ _ ys (no_word k h))

  pub past-bit : (command : Command W) (i : ℕ) (reply : Reply ℕ) (ys : List Bool) → outcome number bits at span.head command xs ≡ when (nat_lt i (length xs)) reply ys
      → span.len ≤ i → new ≡ old → IsStep number bits at span old command PastEnd new
  past-bit command i reply ys is h = step-past command (is ∙ when-false _ reply ys (no_bit i h))

  pub past-swap : (i j : ℕ) → (i < span.len → j < span.len → ⊥) → new ≡ old → IsStep number bits at span old (Swap i j) PastEnd new
  past-swap i j never = step-past (Swap i j) (when-false _ _ _ (rw (length-list_of bits at span old) (swap_past i j span.len never)))

  pub past-copy : (from to count : ℕ) → (from + count ≤ span.len → to + count ≤ span.len → ⊥) → new ≡ old
      → IsStep number bits at span old (Copy from to count) PastEnd new
  past-copy from to count never =
      step-past (Copy from to count) (when-false _ _ _ (rw (length-list_of bits at span old) (copy_past (from + count) (to + count) span.len never)))

  pub past-fill : (from to : ℕ) (value : Bool) → (from ≤ to → to ≤ span.len → ⊥) → new ≡ old
      → IsStep number bits at span old (Fill from to value) PastEnd new
  past-fill from to value never =
      step-past (Fill from to value) (when-false _ _ _ (rw (length-list_of bits at span old) (fill_past from to span.len never)))

  -- a word and a bit that are read
  pub step-load : (k got : ℕ) → k < words_met bits span.head span.len → got ≡ word_of bits at span.head xs k → new ≡ old
      → IsStep number bits at span old (Load k) (Word got) new
  step-load k got met is kept =
      step-within (Load k) (Word got) _ _ (when-true _ _ _ (has_word k met)) (ap Word is)
      (subst (λ m. BecomesList bits at span old m xs) (sym kept) (becomes-own bits at span old))

  pub step-read : (i : ℕ) (got : Bool) → i < span.len → got ≡ element xs i → new ≡ old → IsStep number bits at span old (Read i) (Bit got) new
  step-read i got h is kept =
      step-within (Read i) (Bit got) _ _ (when-true _ _ _ (has_bit i h)) (ap Bit is)
      (subst (λ m. BecomesList bits at span old m xs) (sym kept) (becomes-own bits at span old))

  -- edits of the span's bits
  pub step-replace : (i : ℕ) (bit got : Bool) → i < span.len → got ≡ element xs i → BecomesList bits at span old new (slice_set xs i bit)
      → IsStep number bits at span old (Replace i bit) (Bit got) new
  step-replace i bit got h is = step-within (Replace i bit) (Bit got) _ _ (when-true _ _ _ (has_bit i h)) (ap Bit is)

  pub step-swap : (i j : ℕ) → i < span.len → j < span.len → BecomesList bits at span old new (swap xs i j)
      → IsStep number bits at span old (Swap i j) Done new
  step-swap i j h k =
      step-within (Swap i j) Done _ _ (when-true _ _ _ (rw (length-list_of bits at span old, lt-ltb i span.len h, lt-ltb j span.len k) refl)) refl

  pub step-copy : (from to count : ℕ) → from + count ≤ span.len → to + count ≤ span.len → BecomesList bits at span old new (list_with_copy xs from xs to count)
      → IsStep number bits at span old (Copy from to count) Done new
  step-copy from to count h k =
      step-within (Copy from to count) Done _ _
      (when-true _ _ _ (rw (length-list_of bits at span old, le-leb (from + count) span.len h, le-leb (to + count) span.len k) refl)) refl

  pub step-fill : (from to : ℕ) (value : Bool) → from ≤ to → to ≤ span.len → BecomesList bits at span old new (with_filled xs from to value)
      → IsStep number bits at span old (Fill from to value) Done new
  step-fill from to value rises within =
      step-within (Fill from to value) Done _ _
      (when-true _ _ _ (rw (length-list_of bits at span old, le-leb from to rises, le-leb to span.len within) refl)) refl

  -- edits of the span's bits in one word
  module _ (k got : ℕ) (law : IsOneToOne bits at) (in_head : span.head < bits) (fits : Fits bits span (length old)) (met : k < words_met bits span.head span.len) where
    -- the command whose list has f j in place of each bit j that lies in word k
    step-word : (command : Command W) (after : ℕ → Bool) (f : ℕ → Bool)
        → outcome number bits at span.head command xs ≡ Some (Word (word_of bits at span.head xs k), with_word bits span.head xs k f)
        → ((j : ℕ) → j < span.len → (span.head + j) / bits ≡ k → after ((span.head + j) % bits) ≡ f j)
        → EditsPart bits at (slot_of bits span k) after old new got → IsStep number bits at span old command (Word got) new
    step-word command after f some says edits =
        step-within command (Word got) _ _ some (ap Word (word_of-answered bits at span k after old new got law in_head fits met edits))
        (becomes-edited bits at span k after old new got law in_head fits met edits f says)

    pub step-store : (value : W) → EditsPart bits at (slot_of bits span k) (λ i. digit (number value) (at i)) old new got
        → IsStep number bits at span old (Store k value) (Word got) new
    step-store value = step-word (Store k value) (λ i. digit (number value) (at i)) _ (when-true _ _ _ (has_word k met)) (λ j h e. refl)

    pub step-set : EditsPart bits at (slot_of bits span k) (λ i. true) old new got → IsStep number bits at span old (Set k) (Word got) new
    step-set = step-word (Set k) (λ i. true) _ (when-true _ _ _ (has_word k met)) (λ j h e. refl)

    pub step-clear : EditsPart bits at (slot_of bits span k) (λ i. false) old new got → IsStep number bits at span old (Clear k) (Word got) new
    step-clear = step-word (Clear k) (λ i. false) _ (when-true _ _ _ (has_word k met)) (λ j h e. refl)

    -- turning over needs the old digit at the place of bit j
    pub step-invert : EditsPart bits at (slot_of bits span k) (λ i. not (digit (slice_index old (nat_abs span.word + k)) (at i))) old new got
        → IsStep number bits at span old (Invert k) (Word got) new
    step-invert =
        let some : 0 < bits = omega arith in
        step-word (Invert k) (λ i. not (digit (slice_index old (nat_abs span.word + k)) (at i))) _ (when-true _ _ _ (has_word k met))
        (λ j h e. ap not (sym (element-list_of bits at span old j h ∙ bit_of-span bits at span old j some ∙ (rw e refl))))

-- commands with the same numbers give the same
pub same_outcome : {V W : Type 0} (number : V → ℕ) (other_number : W → ℕ) (bits : ℕ) (at : ℕ → ℕ) (head : ℕ) (c : Command V) (d : Command W) (xs : List Bool)
    → AreSameCommands number other_number IsSameNumber c d → outcome number bits at head c xs ≡ outcome other_number bits at head d xs
same_outcome number other_number bits at head (Load k) (Load l) xs h = rw h refl
same_outcome number other_number bits at head (Store k v) (Store l w) xs h = let e = h.0 in let f = h.1 in rw (e, f) refl
same_outcome number other_number bits at head (Set k) (Set l) xs h = rw h refl
same_outcome number other_number bits at head (Clear k) (Clear l) xs h = rw h refl
same_outcome number other_number bits at head (Invert k) (Invert l) xs h = rw h refl
same_outcome number other_number bits at head (Read i) (Read j) xs h = rw h refl
same_outcome number other_number bits at head (Replace i a) (Replace j b) xs h = let e = h.0 in let f = h.1 in rw (e, f) refl
same_outcome number other_number bits at head (Swap i k) (Swap j l) xs h = let e = h.0 in let f = h.1 in rw (e, f) refl
same_outcome number other_number bits at head (Copy from to count) (Copy other_from other_to other_count) xs h = let e = h.0 in let f = h.1 in let k = h.2 in rw (e, f, k) refl
same_outcome number other_number bits at head (Fill from to value) (Fill other_from other_to other_value) xs h = let e = h.0 in let f = h.1 in let k = h.2 in rw (e, f, k) refl
same_outcome number other_number bits at head _ _ xs h = absurd h

-- a step by a command with the same numbers
pub step-same : {V W : Type 0} (number : V → ℕ) (other_number : W → ℕ) (bits : ℕ) (at : ℕ → ℕ) (span : Span) (old new : List ℕ) (c : Command V) (d : Command W) (reply : Reply ℕ)
    → AreSameCommands number other_number IsSameNumber c d → IsStep number bits at span old c reply new → IsStep other_number bits at span old d reply new
step-same number other_number bits at span old new c d reply same step =
    let outcomes = same_outcome number other_number bits at span.head c d (list_of bits at span old) same in
    record {
      answered = step.answered ∙ ap reply_in outcomes;
      becomes = becomes-same bits at span old new _ _ (ap (list_in (list_of bits at span old)) outcomes) step.becomes;
    }
