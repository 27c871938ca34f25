-- The loans of a span's parts, and the parts in them.
use Rattle.std.proofs.Common.{◌≡◌, ℕ, zero, suc, ◌+◌, ◌-◌, ◌<◌, ◌≤◌, ◌==◌, Bool, true, false, not, ◌&&◌, if◌then◌else◌, List, [], ◌∷◌, replicate, length, map, take, drop, refl, sym, ap, subst, ◌∙◌, arith}
use Rattle.std.proofs.lemmas.List.{take-map, drop-map, get_or-take, get_or-drop, length-take-le, length-drop}
use Rattle.std.proofs.lemmas.Bool.{eqb-true, eqb-false}
use Rattle.std.specs.Prelude.{nat_abs, slice_index, slice_range, T, Option, Some, None, is_some, IfSome, option_map}
use Rattle.std.specs.Borrow.{MutBor}
use Rattle.bitvec_ptr.specs.Place.{words_met, tail_of}
use Rattle.bitvec_ptr.proofs.PlaceLemmas.{words_met-none, words_met-some}
use Rattle.bitvec_span.specs.Span.{Span}
use Rattle.bitvec_span.proofs.PartLemmas.{part_same}
use Rattle.bitvec_span.proofs.SliceLemmas.{map-slice}
use Rattle.bitvec_span.specs.Parts.{Parts, enclave, region, part_of, parts_of}
use Rattle.bitvec_span.specs.Slot.{Slot, slot_part, slot_at}
use Rattle.bitvec_span.specs.declared.domain.shape.Shape.{Shape}
use Rattle.bitvec_span.specs.Shape.{shape_of}
use Rattle.bitvec_span.specs.Loans.{loan_parts, loan_at, is_inside, has_head, has_tail, words_before, body_words, span_loans}

-- what holds of each row of the table of a span's parts, holds
pub rows : (empty begins ends one : Bool) (P : Bool → Bool → Bool → Bool → Type 0) → (empty ≡ true → P true begins ends one) → (empty ≡ false → P false true true one) → (empty ≡ false → P false false true one) → (empty ≡ false → P false true false one) → (empty ≡ false → one ≡ true → P false false false true) → (empty ≡ false → one ≡ false → P false false false false) → P empty begins ends one
rows true begins ends one P p0 p1 p2 p3 p4 p5 = p0 refl
rows false true true one P p0 p1 p2 p3 p4 p5 = p1 refl
rows false false true one P p0 p1 p2 p3 p4 p5 = p2 refl
rows false true false one P p0 p1 p2 p3 p4 p5 = p3 refl
rows false false false true P p0 p1 p2 p3 p4 p5 = p4 refl refl
rows false false false false P p0 p1 p2 p3 p4 p5 = p5 refl refl

-- the tests of `is_inside`, `has_head` and `has_tail`, by the rows' tests
abbrev pub inside : Bool → Bool → Bool → Bool → Bool
inside empty begins ends one = not empty && not begins && not ends && one

abbrev pub heads : Bool → Bool → Bool
heads empty begins = not empty && not begins

abbrev pub tails : Bool → Bool → Bool → Bool → Bool
tails empty begins ends one = not empty && not ends && not (inside empty begins ends one)

false_true : false ≡ true → ⊥
false_true e = subst T (sym e) tt

pub true_false : true ≡ false → ⊥
true_false e = false_true (sym e)

module _ (bits : ℕ) (span : Span) where
  abbrev first : ℕ
  first = nat_abs span.word

  abbrev met : ℕ
  met = words_met bits span.head span.len

  pub some_met : (span.len == 0) ≡ false → 0 < words_met bits span.head span.len
  some_met some = let differ = eqb-false span.len 0 some in let is = words_met-some bits span.head span.len (omega arith) in omega arith

  abbrev by_rows : (P : Bool → Bool → Bool → Bool → Type 0) → ((span.len == 0) ≡ true → P true (span.head == 0) (tail_of bits span.head span.len == bits) (words_met bits span.head span.len == 1)) → ((span.len == 0) ≡ false → P false true true (words_met bits span.head span.len == 1)) → ((span.len == 0) ≡ false → P false false true (words_met bits span.head span.len == 1)) → ((span.len == 0) ≡ false → P false true false (words_met bits span.head span.len == 1)) → ((span.len == 0) ≡ false → (words_met bits span.head span.len == 1) ≡ true → P false false false true) → ((span.len == 0) ≡ false → (words_met bits span.head span.len == 1) ≡ false → P false false false false) → P (span.len == 0) (span.head == 0) (tail_of bits span.head span.len == bits) (words_met bits span.head span.len == 1)
  by_rows = rows (span.len == 0) (span.head == 0) (tail_of bits span.head span.len == bits) (words_met bits span.head span.len == 1)

  -- the words before the body and those of it are no more than the span meets
  pub loans-within : words_before span + body_words bits span ≤ nat_abs span.word + words_met bits span.head span.len
  loans-within =
      by_rows (λ e b f o. first + (if heads e b then 1 else 0) + (met - (if heads e b then 1 else 0) - (if tails e b f o then 1 else 0)) ≤ first + met)
      (λ e. omega arith) (λ e. omega arith) (λ e. let more = some_met e in omega arith) (λ e. let more = some_met e in omega arith) (λ e o. let more = some_met e in omega arith)
      (λ e o. let more = some_met e in omega arith)

  -- a part before the body is in the last word before it
  pub head-within : {X : Type 0} (memory : List X) → nat_abs span.word + words_met bits span.head span.len ≤ length memory → has_head span ≡ true
      → (nat_abs span.word < length (take (words_before span) memory)) × (0 < words_met bits span.head span.len)
  head-within memory fits =
      by_rows (λ e b f o. heads e b ≡ true → (first < length (take (first + (if heads e b then 1 else 0)) memory)) × (0 < met))
      (λ e t. absurd (false_true t)) (λ e t. absurd (false_true t)) (λ e t. here e) (λ e t. absurd (false_true t)) (λ e o t. here e) (λ e o t. here e)
    where
      here : (span.len == 0) ≡ false → (first < length (take (first + 1) memory)) × (0 < met)
      here e = let more = some_met e in (let long = length-take-le (first + 1) memory (omega arith) in omega arith, more)

  -- a part behind the body is in the word after it
  pub tail-within : {X : Type 0} (memory : List X) → nat_abs span.word + words_met bits span.head span.len ≤ length memory → has_tail bits span ≡ true
      → (0 < length (drop (body_words bits span) (drop (words_before span) memory))) × (0 < words_met bits span.head span.len)
  tail-within memory fits =
      by_rows (λ e b f o. tails e b f o ≡ true → (0 < length (drop (met - (if heads e b then 1 else 0) - (if tails e b f o then 1 else 0)) (drop (first + (if heads e b then 1 else 0)) memory))) × (0 < met))
      (λ e t. absurd (false_true t)) (λ e t. absurd (false_true t)) (λ e t. absurd (false_true t)) (λ e t. let more = some_met e in (there (met - 0 - 1) (first + 0) (omega arith), more)) (λ e o t. absurd (false_true t))
      (λ e o t. let more = some_met e in let differ = eqb-false met 1 o in (there (met - 1 - 1) (first + 1) (omega arith), more))
    where
      there : (n i : ℕ) → i + n < first + met → 0 < length (drop n (drop i memory))
      there n i h = let p = length-drop n (drop i memory) in let q = length-drop i memory in omega arith

  -- with no body there is one part, which is lent as a head
  pub inside-alone : not (is_inside bits span) ≡ false → (has_head span ≡ true) × (has_tail bits span ≡ false)
  inside-alone =
      by_rows (λ e b f o. not (inside e b f o) ≡ false → (heads e b ≡ true) × (tails e b f o ≡ false))
      (λ e t. absurd (true_false t)) (λ e t. absurd (true_false t)) (λ e t. absurd (true_false t)) (λ e t. absurd (true_false t)) (λ e o t. (refl, refl)) (λ e o t. absurd (true_false t))

  module _ {R : Type 0} (number : R → ℕ) (memory : List R) where
    head-is : slot_part (slot_at bits span 0 (nat_abs span.word)) (map number (take (nat_abs span.word + 1) memory)) ≡ part_of bits span (map number memory) 0
    head-is = part_same _ _ _ _ _ _
        (ap (λ l. slice_index l first) (sym (take-map number (first + 1) memory))
        ∙ get_or-take (first + 1) (map number memory) first 0 (omega arith)
        ∙ ap (slice_index (map number memory)) (let same : first ≡ first + 0 = omega arith in same)) refl refl

    tail-is : (i n : ℕ) → i + n ≡ nat_abs span.word + (words_met bits span.head span.len - 1)
        → slot_part (slot_at bits span (words_met bits span.head span.len - 1) 0) (map number (drop n (drop i memory))) ≡ part_of bits span (map number memory) (words_met bits span.head span.len - 1)
    tail-is i n e = part_same _ _ _ _ _ _
        (ap (λ l. slice_index l 0) (sym (drop-map number n (drop i memory)) ∙ ap (drop n) (sym (drop-map number i memory)))
        ∙ get_or-drop n (drop i (map number memory)) 0 0
        ∙ get_or-drop i (map number memory) (n + 0) 0
        ∙ ap (slice_index (map number memory)) (let same : i + (n + 0) ≡ first + (met - 1) = omega arith in same)) refl refl

    body-is : (i n from upto : ℕ) → i ≡ from → n ≡ upto - from → map number (take n (drop i memory)) ≡ slice_range (map number memory) from upto
    body-is i n from upto e h = ap (λ k. map number (take k (drop i memory))) h ∙ ap (λ k. map number (take (upto - from) (drop k memory))) e ∙ map-slice number memory from upto

    -- the rows of the table of a span's parts
    abbrev table : Bool → Bool → Bool → Bool → Parts
    table e b f o =
        if e then region None [] None
        else if b && f then region None (slice_range (map number memory) first (first + met)) None
        else if f then region (Some (part_of bits span (map number memory) 0)) (slice_range (map number memory) (first + 1) (first + met)) None
        else if b then region None (slice_range (map number memory) first (first + met - 1)) (Some (part_of bits span (map number memory) (met - 1)))
        else if o then enclave (part_of bits span (map number memory) 0)
        else region (Some (part_of bits span (map number memory) 0)) (slice_range (map number memory) (first + 1) (first + met - 1)) (Some (part_of bits span (map number memory) (met - 1)))

    -- the parts in the loans are the span's
    pub parts-from-loans : loan_parts number (span_loans bits span memory) ≡ parts_of bits span (map number memory)
    parts-from-loans =
        by_rows (λ e b f o. let i = first + (if heads e b then 1 else 0) in let n = met - (if heads e b then 1 else 0) - (if tails e b f o then 1 else 0) in
        loan_parts number (
          loan_at (take i memory) (if heads e b then Some (slot_at bits span 0 first) else None),
          (if inside e b f o then None else Some (take n (drop i memory))),
          loan_at (drop n (drop i memory)) (if tails e b f o then Some (slot_at bits span (met - 1) 0) else None),
        )
        ≡ table e b f o)
        (λ e. let none = words_met-none bits span.head span.len (eqb-true span.len 0 e) in
        ap (λ k. region None (map number (take k (drop (first + 0) memory))) None) (let same : met - 0 - 0 ≡ 0 = omega arith in same))
        (λ e. ap (λ l. region None l None) (body-is (first + 0) (met - 0 - 0) first (first + met) (omega arith) (omega arith)))
        (λ e. let more = some_met e in λ k. region (Some (head-is k)) (body-is (first + 1) (met - 1 - 0) (first + 1) (first + met) (omega arith) (omega arith) k) None)
        (λ e. let more = some_met e in λ k. region None (body-is (first + 0) (met - 0 - 1) first (first + met - 1) (omega arith) (omega arith) k) (Some (tail-is (first + 0) (met - 0 - 1) (omega arith) k)))
        (λ e o. ap enclave head-is)
        (λ e o. let more = some_met e in let differ = eqb-false met 1 o in
        λ k. region (Some (head-is k)) (body-is (first + 1) (met - 1 - 1) (first + 1) (first + met - 1) (omega arith) (omega arith) k) (Some (tail-is (first + 1) (met - 1 - 1) (omega arith) k)))

    -- a region by whether there is a part before and behind its body
    abbrev around : Bool → List ℕ → Bool → ℕ → Parts
    around front body back last =
        let part = part_of bits span (map number memory) in
        region (if front then Some (part 0) else None) body (if back then Some (part last) else None)

    -- the numbers of `n` words from an index on, as a slice up to `i + n` has them
    abbrev words_at : ℕ → ℕ → List ℕ
    words_at i n = map number (take (i + n - i) (drop i memory))

    -- the parts that a shape with a body tells of are the span's
    pub parts-from-shape : (shape : Shape) → shape ≡ shape_of bits span → not shape.has_body ≡ false
        → around shape.has_head (words_at shape.words_before shape.body_words) shape.has_tail (shape.elements - 1)
        ≡ parts_of bits span (map number memory)
    parts-from-shape shape is =
        subst (λ (s : Shape). not s.has_body ≡ false
        → around s.has_head (words_at s.words_before s.body_words) s.has_tail (s.elements - 1)
        ≡ parts_of bits span (map number memory)) (sym is)
        (by_rows (λ e b f o. let i = first + (if heads e b then 1 else 0) in let n = met - (if heads e b then 1 else 0) - (if tails e b f o then 1 else 0) in
        not (not (inside e b f o)) ≡ false → around (heads e b) (words_at i n) (tails e b f o) (met - 1) ≡ table e b f o)
        (λ e t. let none = words_met-none bits span.head span.len (eqb-true span.len 0 e) in
        let same : first + 0 + (met - 0 - 0) - (first + 0) ≡ 0 = omega arith in ap (λ k. region None (map number (take k (drop (first + 0) memory))) None) same)
        (λ e t. ap (λ l. region None l None) (body-is (first + 0) (first + 0 + (met - 0 - 0) - (first + 0)) first (first + met) (omega arith) (omega arith)))
        (λ e t. let more = some_met e in ap (λ l. around true l false (met - 1))
        (body-is (first + 1) (first + 1 + (met - 1 - 0) - (first + 1)) (first + 1) (first + met) (omega arith) (omega arith)))
        (λ e t. let more = some_met e in ap (λ l. around false l true (met - 1))
        (body-is (first + 0) (first + 0 + (met - 0 - 1) - (first + 0)) first (first + met - 1) (omega arith) (omega arith)))
        (λ e o t. absurd (true_false t))
        (λ e o t. let more = some_met e in let differ = eqb-false met 1 o in ap (λ l. around true l true (met - 1))
        (body-is (first + 1) (first + 1 + (met - 1 - 1) - (first + 1)) (first + 1) (first + met - 1) (omega arith) (omega arith))))

-- what is asked of the list behind a loan, if there is one, where there is to be one
pub loan_has : {X : Type 0} (F : Option (MutBor (List X))) (b : Bool) (v : List X) (Q : List X → Type 0) → is_some F ≡ b → IfSome F (λ (r : MutBor (List X)). r.now ≡ v) → (b ≡ true → Q v) → IfSome F (λ (r : MutBor (List X)). Q r.now)
loan_has (Some r) b v Q is e k = subst Q (sym e) (k (sym is))
loan_has None b v Q is e k = tt

-- the loan of a part, by whether there is to be one
pub lent_at : {X : Type 0} (F : Option (MutBor (List X))) (b : Bool) (v : List X) (slot : Slot) → is_some F ≡ b → IfSome F (λ (r : MutBor (List X)). r.now ≡ v)
    → option_map (λ (r : MutBor (List X)). record { words = r.now; place = slot }) F ≡ loan_at v (if b then Some slot else None)
lent_at (Some r) b v slot is e = subst (λ (q : Bool). Some (record { words = r.now; place = slot }) ≡ loan_at v (if q then Some slot else None)) is (ap (λ l. Some (record { words = l; place = slot })) e)
lent_at None b v slot is e = subst (λ (q : Bool). None ≡ loan_at v (if q then Some slot else None)) is refl

-- that of the body, by whether there is to be none
pub lent_unless : {X : Type 0} (F : Option (MutBor (List X))) (b : Bool) (v : List X) → is_some F ≡ not b → IfSome F (λ (r : MutBor (List X)). r.now ≡ v) → option_map (λ (r : MutBor (List X)). r.now) F ≡ (if b then None else Some v)
lent_unless (Some r) false v is e = ap Some e
lent_unless (Some r) true v is e = absurd (true_false is)
lent_unless None true v is e = refl
lent_unless None false v is e = absurd (false_true is)

pub map-replicate : {X Y : Type 0} (f : X → Y) (n : ℕ) (x : X) → map f (replicate n x) ≡ replicate n (f x)
map-replicate f zero x = refl
map-replicate f (suc n) x = ap (λ l. f x ∷ l) (map-replicate f n x)
