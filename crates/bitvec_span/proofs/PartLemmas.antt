-- Parts of words and their values.
use Rattle.std.proofs.Common.{◌≡◌, ℕ, zero, suc, ◌+◌, ◌-◌, ◌*◌, ◌/◌, ◌%◌, ◌^◌, ◌<◌, ◌≤◌, Bool, true, false, ◌&&◌, nat_le, nat_lt, List, length, refl, sym, ap, ◌∙◌, inl, inr, arith, bit_or, if◌then◌else◌}
use Rattle.std.specs.Prelude.{slice_index, nat_abs}
use Rattle.std.proofs.Math.Bool.{and_comm}
use Rattle.std.proofs.lemmas.Bool.{cases_eq, cases_lt, eq-eqb, ne_eqb, le-leb, lt-leb, lt-ltb, le-ltb}
use Rattle.std.proofs.lemmas.List.{get_or_past}
use Rattle.std.proofs.lemmas.Nat.{mul-le, div-add-mod', div-mul-add, mod-mul-add, mod_below}
use Rattle.bitvec_mem.specs.Digit.{digit}
use Rattle.bitvec_order.specs.Order.{IsOneToOne, IsMaskOf, number_of}
use Rattle.bitvec_order.proofs.IndexLemmas.{digit-mask_at, number_of-from_digits}
use Rattle.bitvec_ptr.specs.Memory.{bit_of}
use Rattle.bitvec_ptr.specs.Place.{words_met, tail_of}
use Rattle.bitvec_ptr.proofs.PlaceLemmas.{words_met-none, words_met-some, tail_of-some}
use Rattle.bitvec_ptr.proofs.MemoryLemmas.{length-tabulate, get_or-tabulate, bit_of-place}
use Rattle.bitvec_span.specs.Span.{Span, list_of, element, word_of}
use Rattle.bitvec_span.specs.Parts.{Part, value_of, part_head, part_tail, part_of}

-- a part by its word and bounds
abbrev pub made : ℕ → ℕ → ℕ → Part
made word head tail = record { word = word; head = head; tail = tail }

-- a word under a part's mask is the part's value
pub value_of-from_mask : (bits : ℕ) (at : ℕ → ℕ) (part : Part) (word mask n : ℕ) → IsOneToOne bits at → part.tail ≤ bits → word ≡ part.word → IsMaskOf bits at part.head part.tail mask → n < 2 ^ bits → ((p : ℕ) → p < bits → digit n p ≡ (digit word p && digit mask p)) → n ≡ value_of bits at part
value_of-from_mask bits at part word mask n law within is masked small digits =
    number_of-from_digits bits at (λ i. nat_le part.head i && nat_lt i part.tail && digit part.word (at i)) n law small (λ i h.
    digits (at i) (law.below i h)
    ∙ and_comm (digit word (at i)) (digit mask (at i))
    ∙ ap (λ b. b && digit word (at i)) (digit-mask_at bits at part.head part.tail mask i law within masked h)
    ∙ ap (λ w. nat_le part.head i && nat_lt i part.tail && digit w (at i)) is)

-- the same indices make the same number
pub number_of-same : (at : ℕ → ℕ) (f g : ℕ → Bool) (n : ℕ) → ((i : ℕ) → i < n → f i ≡ g i) → number_of at f n ≡ number_of at g n
unfolding number_of
number_of-same at f g zero same = refl
number_of-same at f g (suc n) same =
    ap (λ m. bit_or m (if f n then 2 ^ at n else 0)) (number_of-same at f g n (λ i h. same i (omega arith)))
    ∙ ap (λ b. bit_or (number_of at g n) (if b then 2 ^ at n else 0)) (same n (omega arith))

-- a span that meets a word is not empty
pub some_len : (bits head len k : ℕ) → k < words_met bits head len → 0 < len
some_len bits head len k h =
    elim (cases_eq len 0) [
      | inl e ↦ (let none = words_met-none bits head len e in absurd (omega arith))
      | inr differ ↦ omega arith
    ]

last_word : (bits head len k : ℕ) → k < words_met bits head len → k ≤ (head + len - 1) / bits
last_word bits head len k h = let e = words_met-some bits head len (some_len bits head len k h) in omega arith

-- index i of the k-th word met lies in the interval exactly where it is in the part
pub inside-from_part : (bits head len k i : ℕ) → head < bits → i < bits → k < words_met bits head len → part_head head k ≤ i → i < part_tail bits head len k → (head ≤ k * bits + i) × (k * bits + i < head + len)
inside-from_part bits head len k i in_head in_word met from upto =
    let some = some_len bits head len k met in
    let last = last_word bits head len k met in
    let count = words_met-some bits head len some in
    let end = tail_of-some bits head len some in
    let parts = div-add-mod' (head + len - 1) bits in
    let below : k * bits ≤ (head + len - 1) / bits * bits = mul-le k bits ((head + len - 1) / bits) bits last (omega arith) in (
      elim (cases_eq k 0) [
        | inl e ↦ (let first : head ≤ i = rw (eq-eqb k 0 e) at from in omega arith)
        | inr differ ↦ (let row : 1 * bits ≤ k * bits = mul-le 1 bits k bits (omega arith) (omega arith) in omega arith)
      ],
      elim (cases_eq (k + 1) (words_met bits head len)) [
        | inl e ↦ (
            let before : i < tail_of bits head len = rw (eq-eqb (k + 1) (words_met bits head len) e) at upto in
            let same : k ≡ (head + len - 1) / bits = omega arith in
            let product : k * bits ≡ (head + len - 1) / bits * bits = ap (λ n. n * bits) same in
            omega arith)
        | inr differ ↦ (let row : (k + 1) * bits ≤ (head + len - 1) / bits * bits = mul-le (k + 1) bits ((head + len - 1) / bits) bits (omega arith) (omega arith) in omega arith)
      ],
    )

pub part-from_inside : (bits head len k i : ℕ) → head < bits → i < bits → k < words_met bits head len → head ≤ k * bits + i → k * bits + i < head + len → (part_head head k ≤ i) × (i < part_tail bits head len k)
part-from_inside bits head len k i in_head in_word met from upto =
    let some = some_len bits head len k met in
    let count = words_met-some bits head len some in
    let end = tail_of-some bits head len some in
    let parts = div-add-mod' (head + len - 1) bits in (
      elim (cases_eq k 0) [
        | inl e ↦ rw (eq-eqb k 0 e) (let none : k * bits ≡ 0 = ap (λ n. n * bits) e ∙ omega arith in omega arith)
        | inr differ ↦ rw (ne_eqb k 0 differ) (omega arith)
      ],
      elim (cases_eq (k + 1) (words_met bits head len)) [
        | inl e ↦ rw (eq-eqb (k + 1) (words_met bits head len) e) (
            let same : k ≡ (head + len - 1) / bits = omega arith in
            let product : k * bits ≡ (head + len - 1) / bits * bits = ap (λ n. n * bits) same in
            omega arith)
        | inr differ ↦ rw (ne_eqb (k + 1) (words_met bits head len) differ) in_word
      ],
    )

-- bit j of a span is a digit of a word
pub bit_of-span : (bits : ℕ) (at : ℕ → ℕ) (span : Span) (words : List ℕ) (j : ℕ) → 0 < bits
    → bit_of bits at words (nat_abs span.word * bits + span.head + j) ≡ digit (slice_index words (nat_abs span.word + (span.head + j) / bits)) (at ((span.head + j) % bits))
bit_of-span bits at span words j h =
    let e : nat_abs span.word * bits + span.head + j ≡ nat_abs span.word * bits + (span.head + j) = omega arith in
    ap (bit_of bits at words) e ∙ bit_of-place bits at words (nat_abs span.word) (span.head + j) h

pub element-list_of : (bits : ℕ) (at : ℕ → ℕ) (span : Span) (words : List ℕ) (j : ℕ) → j < span.len → element (list_of bits at span words) j ≡ bit_of bits at words (nat_abs span.word * bits + span.head + j)
element-list_of bits at span words j h = get_or-tabulate span.len (λ i. bit_of bits at words (nat_abs span.word * bits + span.head + i)) j false h

pub length-list_of : (bits : ℕ) (at : ℕ → ℕ) (span : Span) (words : List ℕ) → length (list_of bits at span words) ≡ span.len
length-list_of bits at span words = length-tabulate span.len (λ i. bit_of bits at words (nat_abs span.word * bits + span.head + i))

pub element_past : (bits : ℕ) (at : ℕ → ℕ) (span : Span) (words : List ℕ) (j : ℕ) → span.len ≤ j → element (list_of bits at span words) j ≡ false
element_past bits at span words j h = let long = length-list_of bits at span words in get_or_past (list_of bits at span words) j false (omega arith)

both_false : (a b c : Bool) → a ≡ false → (a && b && c) ≡ false
both_false true b c e = absurd cc
both_false false b c e = refl

between_false : (a b c : Bool) → b ≡ false → (a && b && c) ≡ false
between_false true true c e = absurd cc
between_false true false c e = refl
between_false false b c e = refl

-- the quotient and the rest of a number below the next multiple
parts_of_sum : (bits k i : ℕ) → i < bits → ((k * bits + i) / bits ≡ k) × ((k * bits + i) % bits ≡ i)
parts_of_sum bits k i h = (div-mul-add k bits i h, mod-mul-add k bits i h)

before_part : (bits head k i : ℕ) → head < bits → k * bits + i < head → i < part_head head k
before_part bits head k i in_head before =
    elim (cases_eq k 0) [
      | inl e ↦ rw (eq-eqb k 0 e) (omega arith)
      | inr differ ↦ absurd (let row : 1 * bits ≤ k * bits = mul-le 1 bits k bits (omega arith) (omega arith) in omega arith)
    ]

past_part : (bits head len k i : ℕ) → i < bits → k < words_met bits head len → head + len ≤ k * bits + i → part_tail bits head len k ≤ i
past_part bits head len k i in_word met past =
    let some = some_len bits head len k met in
    let last = last_word bits head len k met in
    let count = words_met-some bits head len some in
    let end = tail_of-some bits head len some in
    let parts = div-add-mod' (head + len - 1) bits in
    elim (cases_eq (k + 1) (words_met bits head len)) [
      | inl e ↦ rw (eq-eqb (k + 1) (words_met bits head len) e) (
          let same : k ≡ (head + len - 1) / bits = omega arith in
          let product : k * bits ≡ (head + len - 1) / bits * bits = ap (λ n. n * bits) same in
          omega arith)
      | inr differ ↦ absurd (let row : (k + 1) * bits ≤ (head + len - 1) / bits * bits = mul-le (k + 1) bits ((head + len - 1) / bits) bits (omega arith) (omega arith) in omega arith)
    ]

-- a part ends in its word
pub part_tail-most : (bits head len k : ℕ) → 0 < bits → k < words_met bits head len → part_tail bits head len k ≤ bits
part_tail-most bits head len k some met =
    elim (cases_eq (k + 1) (words_met bits head len)) [
      | inl e ↦ rw (eq-eqb (k + 1) (words_met bits head len) e)
          (omega (arith, tail_of-some bits head len (some_len bits head len k met), mod_below (head + len - 1) bits some))
      | inr differ ↦ rw (ne_eqb (k + 1) (words_met bits head len) differ) (omega arith)
    ]

-- parts with the same word and bounds are the same
pub part_same : (w w2 h h2 t t2 : ℕ) → w ≡ w2 → h ≡ h2 → t ≡ t2 → made w h t ≡ made w2 h2 t2
part_same w w2 h h2 t t2 e f d = ap (λ x. made x h t) e ∙ ap (λ x. made w2 x t) f ∙ ap (λ x. made w2 h2 x) d

-- one index of the k-th word: what the part has there is what the list has
same_at : (bits : ℕ) (at : ℕ → ℕ) (span : Span) (words : List ℕ) (k i : ℕ) → span.head < bits → k < words_met bits span.head span.len → i < bits
    → (nat_le (part_head span.head k) i && nat_lt i (part_tail bits span.head span.len k) && digit (slice_index words (nat_abs span.word + k)) (at i)) ≡ (nat_le span.head (k * bits + i) && element (list_of bits at span words) (k * bits + i - span.head))
same_at bits at span words k i in_head met in_word =
    elim (cases_lt (k * bits + i) span.head) [
      | inl before ↦ (
          let out = before_part bits span.head k i in_head before in
          both_false _ _ _ (lt-leb (part_head span.head k) i out) ∙ sym (rw (lt-leb span.head (k * bits + i) before) refl))
      | inr from ↦ elim (cases_lt (k * bits + i) (span.head + span.len)) [
        | inl upto ↦ (
            let part = part-from_inside bits span.head span.len k i in_head in_word met from upto in
            let j : ℕ = k * bits + i - span.head in
            let back : span.head + (k * bits + i - span.head) ≡ k * bits + i = omega arith in
            let parts = parts_of_sum bits k i in_word in
            rw (le-leb (part_head span.head k) i part.0, lt-ltb i (part_tail bits span.head span.len k) part.1, le-leb span.head (k * bits + i) from) (sym (
            element-list_of bits at span words (k * bits + i - span.head) (omega arith)
            ∙ bit_of-span bits at span words (k * bits + i - span.head) (omega arith)
            ∙ (rw (back, parts.0, parts.1) refl))))
        | inr past ↦ (
            let out = past_part bits span.head span.len k i in_word met past in
            between_false _ _ _ (le-ltb i (part_tail bits span.head span.len k) out)
            ∙ sym (rw (le-leb span.head (k * bits + i) from) (element_past bits at span words (k * bits + i - span.head) (omega arith))))
      ]
    ]

-- the value of the k-th part is word k of the list
pub value_of-part_of : (bits : ℕ) (at : ℕ → ℕ) (span : Span) (words : List ℕ) (k : ℕ) → span.head < bits → k < words_met bits span.head span.len
    → value_of bits at (part_of bits span words k) ≡ word_of bits at span.head (list_of bits at span words) k
value_of-part_of bits at span words k in_head met = number_of-same at _ _ bits (λ i h. same_at bits at span words k i in_head met h)
