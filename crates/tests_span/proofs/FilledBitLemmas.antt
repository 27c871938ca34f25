-- The bits of a memory that was filled piece by piece.
use Rattle.std.proofs.Common.{◌≡◌, ℕ, zero, suc, ◌∷◌, ◌+◌, ◌-◌, ◌*◌, ◌/◌, ◌%◌, ◌<◌, ◌≤◌, ◌==◌, Bool, true, false, ◌&&◌, if◌then◌else◌, nat_le, nat_lt, List, ◌++◌, replicate, length, map, take, drop, refl, sym, ap, ◌∙◌, subst, arith, inl, inr, Some, None}
use Rattle.std.specs.Prelude.{nat_abs, pos, slice_index}
use Rattle.std.proofs.Math.ListN.{length-set, get_or-append}
use Rattle.std.proofs.lemmas.List.{get_or-take, get_or-drop, get_or-set_same, get_or-set_other, get_or-append_right, get_or-replicate, length-append, length-take-le, length-drop, length-replicate, length-map}
use Rattle.std.proofs.lemmas.Nat.{div-add-mod', mod_below, le-div}
use Rattle.std.proofs.lemmas.Bool.{cases_eq, cases_lt, eq-eqb, ne_eqb, eqb-true, eqb-false, le-leb, lt-leb, lt-ltb, le-ltb}
use Rattle.bitvec_mem.specs.Digit.{digit}
use Rattle.bitvec_mem.proofs.DigitLemmas.{digit-zero, digit_all}
use Rattle.bitvec_order.specs.Order.{IsOneToOne}
use Rattle.bitvec_order.proofs.IndexLemmas.{digit-number_of_at}
use Rattle.bitvec_ptr.specs.Memory.{bit_of}
use Rattle.bitvec_ptr.specs.Place.{words_met, tail_of}
use Rattle.bitvec_ptr.proofs.PlaceLemmas.{words_met-none, words_met-some}
use Rattle.bitvec_ptr.proofs.MemoryLemmas.{tabulate-from_elements}
use Rattle.bitvec_span.specs.Span.{Span, Covers, Fits, BecomesList, list_of}
use Rattle.bitvec_span.specs.Parts.{part_head, part_tail, part_of}
use Rattle.bitvec_span.specs.Slot.{slot_at, edited_word}
use Rattle.bitvec_span.specs.Loans.{has_head, has_tail, body_words}
use Rattle.bitvec_span.proofs.BecomesLemmas.{becomes}
use Rattle.bitvec_span.proofs.PartLemmas.{inside-from_part, part-from_inside, bit_of-span}
use Rattle.bitvec_span.proofs.CoverLemmas.{covers-own}
use Rattle.bitvec_span.proofs.LoanLemmas.{rows, heads, tails}
use Rattle.tests_span.specs.FilledDomain.{word_of_bit, filled_slot_if, filled_memory}

-- a word many times, by its number
pub map-replicate : {X Y : Type 0} (f : X → Y) (n : ℕ) (x : X) → map f (replicate n x) ≡ replicate n (f x)
map-replicate f zero x = refl
map-replicate f (suc n) x = ap (λ l. f x ∷ l) (map-replicate f n x)

-- a span that is not empty meets a word
some_met : (bits : ℕ) (span : Span) → (span.len == 0) ≡ false → 0 < words_met bits span.head span.len
some_met bits span some = let differ = eqb-false span.len 0 some in let is = words_met-some bits span.head span.len (omega (arith, differ)) in omega (arith, is)

not_first : (a b : Bool) → a ≡ false → (a && b) ≡ false
not_first true b e = absurd cc
not_first false b e = refl

not_second : (a b : Bool) → b ≡ false → (a && b) ≡ false
not_second true true e = absurd cc
not_second true false e = refl
not_second false b e = refl

digit-word_of_bit : (bits : ℕ) (bit : Bool) (p : ℕ) → p < bits → digit (word_of_bit bits bit) p ≡ bit
digit-word_of_bit bits true p h = digit_all bits p h
digit-word_of_bit bits false p h = digit-zero p

module _ (bits : ℕ) (at : ℕ → ℕ) (bit : Bool) (span : Span) (old : List ℕ) where
  abbrev first : ℕ
  first = nat_abs span.word

  abbrev met : ℕ
  met = words_met bits span.head span.len

  abbrev one : Bool → ℕ
  one b = if b then 1 else 0

  -- the k-th word that the span meets, with its bits there made the same
  abbrev whole_edit : ℕ → ℕ
  whole_edit k = edited_word bits at (part_of bits span old k) (λ i. bit)

  -- the words up to the head's
  abbrev front : Bool → List ℕ
  front b = filled_slot_if bits at bit (if b then Some (slot_at bits span 0 first) else None) (take (first + one b) old)

  length-front : (b : Bool) → first + one b ≤ length old → length (front b) ≡ first + one b
  length-front true room = length-set (take (first + 1) old) first _ ∙ length-take-le (first + 1) old room
  length-front false room = length-take-le (first + 0) old room

  front-kept : (b : Bool) (w : ℕ) → w < first → slice_index (front b) w ≡ slice_index old w
  front-kept true w h = get_or-set_other (take (first + 1) old) first w _ 0 (λ e. omega (arith, h, e)) ∙ get_or-take (first + 1) old w 0 (omega (arith, h))
  front-kept false w h = get_or-take (first + 0) old w 0 (omega (arith, h))

  front-edited : first + 1 ≤ length old → slice_index (front true) first ≡ whole_edit 0
  front-edited room =
      let long = length-take-le (first + 1) old room in
      get_or-set_same (take (first + 1) old) first _ 0 (omega (arith, long))
      ∙ ap (λ (w : ℕ). edited_word bits at (record { word = w; head = part_head span.head 0; tail = part_tail bits span.head span.len 0 }) (λ i. bit))
      (get_or-take (first + 1) old first 0 (omega arith) ∙ ap (slice_index old) (let same : first ≡ first + 0 = omega arith in same))

  -- the words from the tail's on
  abbrev back : Bool → ℕ → List ℕ → List ℕ
  back b n rest = filled_slot_if bits at bit (if b then Some (slot_at bits span (met - 1) 0) else None) (drop n rest)

  back-kept : (b : Bool) (n i : ℕ) (rest : List ℕ) → one b ≤ i → slice_index (back b n rest) i ≡ slice_index (drop n rest) i
  back-kept true n i rest h = get_or-set_other (drop n rest) 0 i _ 0 (λ e. omega (arith, h, e))
  back-kept false n i rest h = refl

  length-back : (b : Bool) (n : ℕ) (rest : List ℕ) → length (back b n rest) ≡ length (drop n rest)
  length-back true n rest = length-set (drop n rest) 0 _
  length-back false n rest = refl

  back-edited : (n : ℕ) (rest : List ℕ) → n < length rest → slice_index (back true n rest) 0 ≡ edited_word bits at (record { word = slice_index (drop n rest) 0; head = part_head span.head (met - 1); tail = part_tail bits span.head span.len (met - 1) }) (λ i. bit)
  back-edited n rest h =
      let long = length-drop n rest in
      get_or-set_same (drop n rest) 0 _ 0 (omega (arith, long, h))

  -- the memory, by whether there is a head and a tail, and how many words lie between
  abbrev pieces : Bool → Bool → ℕ → List ℕ
  pieces h t n = front h ++ (replicate n (word_of_bit bits bit) ++ back t n (drop (first + one h) old))

  module _ (h t : Bool) (n : ℕ) (count : met ≡ one h + n + one t) (room : first + met ≤ length old) where
    front_long : length (front h) ≡ first + one h
    front_long = length-front h (omega (arith, count, room))

    at-front : (w : ℕ) → w < first + one h → slice_index (pieces h t n) w ≡ slice_index (front h) w
    at-front w l = get_or-append (front h) _ 0 w (omega (arith, front_long, l))

    past-front : (j : ℕ) → slice_index (pieces h t n) (first + one h + j) ≡ slice_index (replicate n (word_of_bit bits bit) ++ back t n (drop (first + one h) old)) j
    past-front j =
        get_or-append_right (front h) _ (first + one h) (first + one h + j) 0 front_long (omega arith)
        ∙ ap (slice_index (replicate n (word_of_bit bits bit) ++ back t n (drop (first + one h) old))) (let same : first + one h + j - (first + one h) ≡ j = omega arith in same)

    at-body : (j : ℕ) → j < n → slice_index (pieces h t n) (first + one h + j) ≡ word_of_bit bits bit
    at-body j l =
        let long = length-replicate n (word_of_bit bits bit) in
        past-front j ∙ get_or-append (replicate n (word_of_bit bits bit)) _ 0 j (omega (arith, long, l)) ∙ get_or-replicate n j _ 0 l

    at-back : (j : ℕ) → slice_index (pieces h t n) (first + one h + n + j) ≡ slice_index (back t n (drop (first + one h) old)) j
    at-back j =
        ap (slice_index (pieces h t n)) (let same : first + one h + n + j ≡ first + one h + (n + j) = omega arith in same)
        ∙ past-front (n + j)
        ∙ get_or-append_right (replicate n (word_of_bit bits bit)) _ n (n + j) 0 (length-replicate n _) (omega arith)
        ∙ ap (slice_index (back t n (drop (first + one h) old))) (let same : n + j - n ≡ j = omega arith in same)

    rest-is : (j : ℕ) → slice_index (drop n (drop (first + one h) old)) j ≡ slice_index old (first + one h + n + j)
    rest-is j =
        get_or-drop n (drop (first + one h) old) j 0 ∙ get_or-drop (first + one h) old (n + j) 0
        ∙ ap (slice_index old) (let same : first + one h + (n + j) ≡ first + one h + n + j = omega arith in same)

    before-kept : (w : ℕ) → w < first → slice_index (pieces h t n) w ≡ slice_index old w
    before-kept w l = at-front w (omega (arith, l)) ∙ front-kept h w l

    behind-kept : (w : ℕ) → first + met ≤ w → slice_index (pieces h t n) w ≡ slice_index old w
    behind-kept w l =
        let j : ℕ = w - (first + one h + n) in
        let same : w ≡ first + one h + n + j = omega (arith, count, l) in
        ap (slice_index (pieces h t n)) same
        ∙ at-back j ∙ back-kept t n j (drop (first + one h) old) (omega (arith, count, l)) ∙ rest-is j
        ∙ ap (slice_index old) (sym same)

  -- the words with a part, and those between
  front-word : (h t : Bool) (n : ℕ) → met ≡ one h + n + one t → first + met ≤ length old → (k : ℕ) → k < one h → slice_index (pieces h t n) (first + k) ≡ whole_edit k
  front-word true t n count room k l =
      at-front true t n count room (first + k) (omega (arith, l))
      ∙ ap (slice_index (front true)) (let same : first + k ≡ first = omega (arith, l) in same)
      ∙ front-edited (omega (arith, count, room)) ∙ ap whole_edit (let same : 0 ≡ k = omega (arith, l) in same)
  front-word false t n count room k l = absurd (omega (arith, l))

  back-word : (h t : Bool) (n : ℕ) → met ≡ one h + n + one t → first + met ≤ length old → (k : ℕ) → one h + n ≤ k → k < met → slice_index (pieces h t n) (first + k) ≡ whole_edit k
  back-word h true n count room k from upto =
      let long = length-drop (first + one h) old in
      ap (slice_index (pieces h true n)) (let same : first + k ≡ first + one h + n + 0 = omega (arith, count, from, upto) in same)
      ∙ at-back h true n count room 0
      ∙ back-edited n (drop (first + one h) old) (omega (arith, count, room, long))
      ∙ ap (λ (w : ℕ). edited_word bits at (record { word = w; head = part_head span.head (met - 1); tail = part_tail bits span.head span.len (met - 1) }) (λ i. bit))
      (rest-is h true n count room 0 ∙ ap (slice_index old) (let same : first + one h + n + 0 ≡ first + (met - 1) = omega (arith, count) in same))
      ∙ ap whole_edit (let same : met - 1 ≡ k = omega (arith, count, from, upto) in same)
  back-word h false n count room k from upto = absurd (omega (arith, count, from, upto))

  body-word : (h t : Bool) (n : ℕ) → met ≡ one h + n + one t → first + met ≤ length old → (k : ℕ) → one h ≤ k → k < one h + n → slice_index (pieces h t n) (first + k) ≡ word_of_bit bits bit
  body-word h t n count room k from upto =
      ap (slice_index (pieces h t n)) (let same : first + k ≡ first + one h + (k - one h) = omega (arith, from) in same)
      ∙ at-body h t n count room (k - one h) (omega (arith, from, upto))

  -- the words that a span meets are those before the body's end that have a part, those of the body, and the tail's
  pieces-count : met ≡ one (has_head span) + body_words bits span + one (has_tail bits span)
  pieces-count =
      rows (span.len == 0) (span.head == 0) (tail_of bits span.head span.len == bits) (met == 1)
      (λ e b f o. met ≡ one (heads e b) + (met - one (heads e b) - one (tails e b f o)) + one (tails e b f o))
      (λ e. omega arith) (λ e. omega arith) (λ e. let more = some_met bits span e in omega arith) (λ e. let more = some_met bits span e in omega arith) (λ e o. let more = some_met bits span e in omega arith)
      (λ e o. let more = some_met bits span e in let differ = eqb-false met 1 o in omega arith)

  -- a word of the body has bits of the span alone
  body-whole : (k : ℕ) → one (has_head span) ≤ k → k < one (has_head span) + body_words bits span → (part_head span.head k ≡ 0) × (part_tail bits span.head span.len k ≡ bits)
  body-whole k =
      rows (span.len == 0) (span.head == 0) (tail_of bits span.head span.len == bits) (met == 1)
      (λ e b f o. (span.head == 0) ≡ b → (tail_of bits span.head span.len == bits) ≡ f → one (heads e b) ≤ k → k < one (heads e b) + (met - one (heads e b) - one (tails e b f o))
      → (part_head span.head k ≡ 0) × (part_tail bits span.head span.len k ≡ bits))
      (λ e b f from upto. let none = words_met-none bits span.head span.len (eqb-true span.len 0 e) in absurd (omega (arith, upto, none)))
      (λ e b f from upto. (begins b, ends f))
      (λ e b f from upto. (later from, ends f))
      (λ e b f from upto. (begins b, earlier (omega (arith, upto))))
      (λ e o b f from upto. let alone = eqb-true met 1 o in absurd (omega (arith, from, upto, alone)))
      (λ e o b f from upto. (later from, earlier (omega (arith, upto))))
      refl refl
    where
      begins : (span.head == 0) ≡ true → part_head span.head k ≡ 0
      begins b = elim (cases_eq k 0) [
        | inl e ↦ rw (eq-eqb k 0 e) (eqb-true span.head 0 b)
        | inr differ ↦ rw (ne_eqb k 0 differ) refl
      ]

      later : 1 ≤ k → part_head span.head k ≡ 0
      later h = rw (ne_eqb k 0 (λ e. omega (arith, h, e))) refl

      ends : (tail_of bits span.head span.len == bits) ≡ true → part_tail bits span.head span.len k ≡ bits
      ends f = elim (cases_eq (k + 1) met) [
        | inl e ↦ rw (eq-eqb (k + 1) met e) (eqb-true (tail_of bits span.head span.len) bits f)
        | inr differ ↦ rw (ne_eqb (k + 1) met differ) refl
      ]

      earlier : k + 1 < met → part_tail bits span.head span.len k ≡ bits
      earlier h = rw (ne_eqb (k + 1) met (λ e. omega (arith, h, e))) refl

  module _ (law : IsOneToOne bits at) (in_head : span.head < bits) (fits : Fits bits span (length old)) where
    abbrev new : List ℕ
    new = filled_memory bits at bit span old

    digit-edited : (k i : ℕ) → i < bits → digit (whole_edit k) (at i) ≡ (if nat_le (part_head span.head k) i && nat_lt i (part_tail bits span.head span.len k) then bit else digit (slice_index old (first + k)) (at i))
    digit-edited k i h = digit-number_of_at bits at _ i law h

    -- the digit at the position of an index, in each word that the span meets
    digit-filled : (k i : ℕ) → k < met → i < bits → digit (slice_index new (first + k)) (at i) ≡ (if nat_le (part_head span.head k) i && nat_lt i (part_tail bits span.head span.len k) then bit else digit (slice_index old (first + k)) (at i))
    digit-filled k i l small =
        let h = has_head span in
        let t = has_tail bits span in
        let n = body_words bits span in
        elim (cases_lt k (one h)) [
          | inl before ↦ ap (λ w. digit w (at i)) (front-word h t n pieces-count fits.1 k before) ∙ digit-edited k i small
          | inr from ↦ elim (cases_lt k (one h + n)) [
            | inl upto ↦ (
                let whole = body-whole k from upto in
                ap (λ w. digit w (at i)) (body-word h t n pieces-count fits.1 k from upto)
                ∙ digit-word_of_bit bits bit (at i) (law.below i small)
                ∙ (rw (le-leb (part_head span.head k) i (omega (arith, whole.0)), lt-ltb i (part_tail bits span.head span.len k) (omega (arith, whole.1, small))) refl))
            | inr past ↦ ap (λ w. digit w (at i)) (back-word h t n pieces-count fits.1 k past l) ∙ digit-edited k i small
          ]
        ]

    some_bits : 0 < bits
    some_bits = omega (arith, in_head)

    -- inside the span and outside it
    digit-inside : (k i : ℕ) → k < met → i < bits → span.head ≤ k * bits + i → k * bits + i < span.head + span.len → digit (slice_index new (first + k)) (at i) ≡ bit
    digit-inside k i l small from upto =
        let inside = part-from_inside bits span.head span.len k i in_head small l from upto in
        digit-filled k i l small ∙ (rw (le-leb (part_head span.head k) i inside.0, lt-ltb i (part_tail bits span.head span.len k) inside.1) refl)

    digit-outside : (k i : ℕ) → k < met → i < bits → (span.head ≤ k * bits + i → k * bits + i < span.head + span.len → ⊥) → digit (slice_index new (first + k)) (at i) ≡ digit (slice_index old (first + k)) (at i)
    digit-outside k i l small out =
        digit-filled k i l small
        ∙ ap (λ b. if b then bit else digit (slice_index old (first + k)) (at i))
        (elim (cases_lt i (part_head span.head k)) [
          | inl before ↦ not_first _ _ (lt-leb (part_head span.head k) i before)
          | inr from ↦ elim (cases_lt i (part_tail bits span.head span.len k)) [
            | inl upto ↦ (let inside = inside-from_part bits span.head span.len k i in_head small l from upto in absurd (out inside.0 inside.1))
            | inr past ↦ not_second _ _ (le-ltb i (part_tail bits span.head span.len k) past)
          ]
        ])

    -- the word of bit j of the span
    word-met : (j : ℕ) → j < span.len → (span.head + j) / bits < met
    word-met j h =
        let count = words_met-some bits span.head span.len (omega (arith, h)) in
        let parts = div-add-mod' (span.head + j) bits in
        let row = le-div ((span.head + j) / bits) (span.head + span.len - 1) bits some_bits (omega (arith, parts, h)) in
        omega (arith, count, row)

    filled-list : list_of bits at span new ≡ replicate span.len bit
    filled-list =
        sym (tabulate-from_elements (replicate span.len bit) span.len _ false (length-replicate span.len bit) (λ j h.
        let small = mod_below (span.head + j) bits some_bits in
        let parts = div-add-mod' (span.head + j) bits in
        get_or-replicate span.len j bit false h
        ∙ sym (bit_of-span bits at span new j some_bits ∙ digit-inside ((span.head + j) / bits) ((span.head + j) % bits) (word-met j h) small (omega (arith, parts)) (omega (arith, parts, h)))))

    filled-others : (place : ℕ) → ¬ Covers bits span (pos place) → bit_of bits at new place ≡ bit_of bits at old place
    filled-others place out =
        let w : ℕ = place / bits in
        let i : ℕ = place % bits in
        let small = mod_below place bits some_bits in
        let parts = div-add-mod' place bits in
        elim (cases_lt w first) [
          | inl before ↦ ap (λ v. digit v (at i)) (before-kept (has_head span) (has_tail bits span) (body_words bits span) pieces-count fits.1 w before)
          | inr from ↦ elim (cases_lt w (first + met)) [
            | inl upto ↦ (
                let k : ℕ = w - first in
                let here : first + k ≡ w = omega (arith, from) in
                let product : w * bits ≡ first * bits + k * bits = ap (λ n. n * bits) (sym here) ∙ omega arith in
                subst (λ v. digit (slice_index new v) (at i) ≡ digit (slice_index old v) (at i)) here
                (digit-outside k i (omega (arith, from, upto)) small (λ a b.
                let j : ℕ = k * bits + i - span.head in
                let same : first * bits + span.head + j ≡ place = omega (arith, parts, product, a) in
                out (subst (λ n. Covers bits span (pos n)) same (covers-own bits span (length old) j fits (omega (arith, a, b)))))))
            | inr past ↦ ap (λ v. digit v (at i)) (behind-kept (has_head span) (has_tail bits span) (body_words bits span) pieces-count fits.1 w past)
          ]
        ]

    filled-words : length new ≡ length old
    filled-words =
        let h = has_head span in
        let t = has_tail bits span in
        let n = body_words bits span in
        let front_is = length-front h (omega (arith, pieces-count, fits.1)) in
        let body_is = length-replicate n (word_of_bit bits bit) in
        let back_is = length-back t n (drop (first + one h) old) in
        let rest_is = length-drop (first + one h) old in
        let tail_is = length-drop n (drop (first + one h) old) in
        length-append (front h) (replicate n (word_of_bit bits bit) ++ back t n (drop (first + one h) old))
        ∙ ap (λ m. length (front h) + m) (length-append (replicate n (word_of_bit bits bit)) (back t n (drop (first + one h) old)))
        ∙ omega (arith, pieces-count, fits.1, front_is, body_is, back_is, rest_is, tail_is)

-- the same of words as registers, from the equation of the pieces
module _ {R : Type 0} (number : R → ℕ) (bits : ℕ) (at : ℕ → ℕ) (bit : Bool) (span : Span) (old new : List R)
    (law : IsOneToOne bits at) (in_head : span.head < bits) (fits : Fits bits span (length old)) (is : map number new ≡ filled_memory bits at bit span (map number old)) where
  fits_numbers : Fits bits span (length (map number old))
  fits_numbers = subst (Fits bits span) (sym (length-map old number)) fits

  pub filled-becomes : BecomesList bits at span (map number old) (map number new) (replicate span.len bit)
  filled-becomes =
      becomes bits at span (map number old) (map number new) (replicate span.len bit)
      (ap (list_of bits at span) is ∙ filled-list bits at bit span (map number old) law in_head fits_numbers)
      (λ place out. ap (λ words. bit_of bits at words place) is ∙ filled-others bits at bit span (map number old) law in_head fits_numbers place out)
      (ap length is ∙ filled-words bits at bit span (map number old) law in_head fits_numbers)
