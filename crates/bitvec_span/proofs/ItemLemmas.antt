-- The items of a span's parts are the words of its list.
use Rattle.std.proofs.Common.{◌≡◌, ◌⊎◌, ℕ, suc, ◌+◌, ◌-◌, ◌*◌, ◌/◌, zero-le, ◌<◌, ◌≤◌, ◌^◌, ◌==◌, Bool, true, false, ◌&&◌, nat_le, nat_lt, if◌then◌else◌, List, [], ◌∷◌, ◌++◌, length, map, take, drop, Option, Some, None, refl, sym, ap, ◌∙◌, inl, inr, arith, append-nil, append_assoc}
use Rattle.std.specs.Prelude.{nat_abs, slice_index, slice_range, is_some}
use mir.Val.{bool_byte}
use Rattle.std.specs.List.{range_with_len}
use Rattle.std.proofs.lemmas.List.{map-append, length-append, same_lists, length-map, get_or-map, get_or-take, get_or-drop}
use Rattle.std.proofs.lemmas.List.FromFn.{length-map-range_with_len, get_or-map-range_with_len, map-range_with_len_more}
use Rattle.std.proofs.Common.{length-drop, length-take-le}
use Rattle.std.proofs.lemmas.Nat.{div-add-mod', le-div}
use Rattle.std.proofs.lemmas.Bool.{cases_eq, eq-eqb, ne_eqb, eqb-true, eqb-false, le-leb, lt-ltb}
use Rattle.bitvec_mem.specs.Digit.{digit}
use Rattle.bitvec_order.specs.Order.{IsOneToOne}
use Rattle.bitvec_order.proofs.IndexLemmas.{number_of-from_digits}
use Rattle.bitvec_ptr.specs.Memory.{tabulate}
use Rattle.bitvec_ptr.specs.Place.{words_met, tail_of}
use Rattle.bitvec_ptr.proofs.PlaceLemmas.{words_met-none, words_met-some, tail_of-some}
use Rattle.bitvec_ptr.proofs.MemoryLemmas.{tabulate_same}
use Rattle.bitvec_span.specs.Span.{Span, Fits, list_of, word_of, words_of, region_max_bits}
use Rattle.bitvec_span.specs.Parts.{Part, Parts, enclave, region, whole_part, value_of, part_head, part_tail, part_of, parts_of, items, part_items, HasShortBody}
use Rattle.bitvec_span.proofs.WordsLemmas.{quotient_most}
use Rattle.bitvec_span.proofs.PartLemmas.{part_same, value_of-part_of, length-list_of}

-- a whole word is its own value
pub value_of-whole : (bits : ℕ) (at : ℕ → ℕ) (w : ℕ) → IsOneToOne bits at → w < 2 ^ bits → value_of bits at (whole_part bits w) ≡ w
value_of-whole bits at w law small =
    sym (number_of-from_digits bits at (λ i. nat_le 0 i && nat_lt i bits && digit w (at i)) w law small (λ i h. sym (rw (le-leb 0 i (omega arith), lt-ltb i bits h) refl)))

-- what holds of each side of a choice, where it is the side that is taken, holds of the choice
if_cases : {A : Type 0} (P : A → Type 0) (test : Bool) (x y : A)
    → (test ≡ true → P x) → (test ≡ false → P y) → P (if test then x else y)
if_cases P true x y p q = p refl
if_cases P false x y p q = q refl

-- both of two tests hold, or the second alone
both_true : (a b : Bool) → (a && b) ≡ true → (a ≡ true) × (b ≡ true)
both_true true true e = (refl, refl)
both_true true false e = absurd cc
both_true false b e = absurd cc

second_alone : (a b : Bool) → (a && b) ≡ false → b ≡ true → a ≡ false
second_alone true true e f = absurd cc
second_alone true false e f = absurd cc
second_alone false b e f = refl

-- what holds of each row of the table of a span's parts, where it is the first that applies, holds
-- of its parts
module _ (P : Parts → Type 0) (bits : ℕ) (span : Span) (words : List ℕ) where
  abbrev first : ℕ
  first = nat_abs span.word

  abbrev elements : ℕ
  elements = words_met bits span.head span.len

  abbrev tail : ℕ
  tail = tail_of bits span.head span.len

  abbrev head_part : Part
  head_part = part_of bits span words 0

  abbrev tail_part : Part
  tail_part = part_of bits span words (elements - 1)

  pub table_cases : ((span.len == 0) ≡ true → P (region None [] None))
      → ((span.len == 0) ≡ false → (span.head == 0) ≡ true → (tail == bits) ≡ true
      → P (region None (slice_range words first (first + elements)) None))
      → ((span.len == 0) ≡ false → (span.head == 0) ≡ false → (tail == bits) ≡ true
      → P (region (Some head_part) (slice_range words (first + 1) (first + elements)) None))
      → ((span.len == 0) ≡ false → (span.head == 0) ≡ true → (tail == bits) ≡ false
      → P (region None (slice_range words first (first + elements - 1)) (Some tail_part)))
      → ((span.len == 0) ≡ false → (span.head == 0) ≡ false → (tail == bits) ≡ false
      → (elements == 1) ≡ true → P (enclave head_part))
      → ((span.len == 0) ≡ false → (span.head == 0) ≡ false → (tail == bits) ≡ false
      → (elements == 1) ≡ false
      → P (region (Some head_part) (slice_range words (first + 1) (first + elements - 1))
      (Some tail_part)))
      → P (parts_of bits span words)
  table_cases none whole headed tailed single parted =
      if_cases P (span.len == 0) _ _ none (λ some.
      if_cases P (span.head == 0 && tail == bits) _ _
      (λ is. let two = both_true _ _ is in whole some two.0 two.1) (λ no.
      if_cases P (tail == bits) _ _ (λ ends. headed some (second_alone _ _ no ends) ends) (λ stops.
      if_cases P (span.head == 0) _ _ (λ begins. tailed some begins stops) (λ inside.
      if_cases P (elements == 1) _ _ (single some inside stops) (parted some inside stops)))))

length_slice : (xs : List ℕ) (i n : ℕ) → i + n ≤ length xs → length (take n (drop i xs)) ≡ n
length_slice xs i n h = length-take-le n (drop i xs) (omega (arith, length-drop i xs))

-- a slice through a function is a table of its elements
map-slice_range : (f v : ℕ → ℕ) (xs : List ℕ) (i a n : ℕ) → i + n ≤ length xs → ((k : ℕ) → k < n → f (slice_index xs (i + k)) ≡ v (a + k)) → map f (slice_range xs i (i + n)) ≡ map v (range_with_len a n)
map-slice_range f v xs i a n within same =
    ap (λ m. map f (take m (drop i xs))) (let e : i + n - i ≡ n = omega arith in e)
    ∙ (let long = length_slice xs i n within in
    same_lists (map f (take n (drop i xs))) (map v (range_with_len a n)) (length-map (take n (drop i xs)) f ∙ long ∙ sym (length-map-range_with_len v a n)) (λ k d h.
    let below : k < n = (let e = length-map (take n (drop i xs)) f in omega arith) in
    get_or-map f (take n (drop i xs)) k 0 d (omega arith)
    ∙ ap f (get_or-take n (drop i xs) k 0 below ∙ get_or-drop i xs k 0)
    ∙ same k below
    ∙ sym (get_or-map-range_with_len v a n k (a + k) d below refl)))

module _ (bits : ℕ) (at : ℕ → ℕ) (span : Span) (words : List ℕ) (in_head : span.head < bits) (within : nat_abs span.word + words_met bits span.head span.len ≤ length words) where
  -- the value of the k-th part
  abbrev value_at : ℕ → ℕ
  value_at k = value_of bits at (part_of bits span words k)

  pub first_bound : (k : ℕ) → (0 < k) ⊎ (span.head ≡ 0) → 0 ≡ part_head span.head k
  first_bound k h =
      elim (cases_eq k 0) [
        | inl e ↦ rw (eq-eqb k 0 e) (elim h [ inl some ↦ absurd (omega arith) | inr none ↦ sym none ])
        | inr differ ↦ rw (ne_eqb k 0 differ) refl
      ]

  pub last_bound : (k : ℕ) → (k + 1 < words_met bits span.head span.len) ⊎ (tail_of bits span.head span.len ≡ bits) → bits ≡ part_tail bits span.head span.len k
  last_bound k h =
      elim (cases_eq (k + 1) (words_met bits span.head span.len)) [
        | inl e ↦ rw (eq-eqb (k + 1) (words_met bits span.head span.len) e) (elim h [ inl before ↦ absurd (omega arith) | inr full ↦ sym full ])
        | inr differ ↦ rw (ne_eqb (k + 1) (words_met bits span.head span.len) differ) refl
      ]

  after : (a k : ℕ) → (0 < a) ⊎ (span.head ≡ 0) → (0 < a + k) ⊎ (span.head ≡ 0)
  after a k h = elim h [ inl some ↦ inl (omega arith) | inr none ↦ inr none ]

  before : (a n k : ℕ) → k < n → (a + n < words_met bits span.head span.len) ⊎ (tail_of bits span.head span.len ≡ bits) → a + n ≤ words_met bits span.head span.len → (a + k + 1 < words_met bits span.head span.len) ⊎ (tail_of bits span.head span.len ≡ bits)
  before a n k h end most = elim end [ inl less ↦ inl (omega arith) | inr full ↦ inr full ]

  -- whole words, from the a-th that the span meets on
  body : (a n from upto : ℕ) → from ≡ nat_abs span.word + a → upto ≡ nat_abs span.word + a + n → a + n ≤ words_met bits span.head span.len → (0 < a) ⊎ (span.head ≡ 0) → (a + n < words_met bits span.head span.len) ⊎ (tail_of bits span.head span.len ≡ bits) → map (λ w. value_of bits at (whole_part bits w)) (slice_range words from upto) ≡ map value_at (range_with_len a n)
  body a n from upto e f most begin end =
      ap (λ i. map (λ w. value_of bits at (whole_part bits w)) (slice_range words i upto)) e
      ∙ ap (λ i. map (λ w. value_of bits at (whole_part bits w)) (slice_range words (nat_abs span.word + a) i)) f
      ∙ map-slice_range (λ w. value_of bits at (whole_part bits w)) value_at words (nat_abs span.word + a) a n (omega arith) (λ k h.
      ap (value_of bits at) (part_same _ _ _ _ _ _ (ap (slice_index words) (let g : nat_abs span.word + a + k ≡ nat_abs span.word + (a + k) = omega arith in g))
      (first_bound (a + k) (after a k begin)) (last_bound (a + k) (before a n k h end most))))

  some_word : (span.len == 0) ≡ false → 0 < words_met bits span.head span.len
  some_word some = let differ = eqb-false span.len 0 some in let is = words_met-some bits span.head span.len (omega arith) in omega arith

  -- one value first, and the others
  values_first : (n : ℕ) → words_met bits span.head span.len ≡ suc n → map value_at (range_with_len 0 (words_met bits span.head span.len)) ≡ value_at 0 ∷ map value_at (range_with_len 1 n)
  values_first n e = ap (λ m. map value_at (range_with_len 0 m)) e

  -- the values before the last, and the last
  values_last : (a n j : ℕ) → a + n ≡ j → map value_at (range_with_len a (suc n)) ≡ map value_at (range_with_len a n) ++ (value_at j ∷ [])
  values_last a n j e = ap (λ m. map value_at (range_with_len a m)) (let f : suc n ≡ n + 1 = omega arith in f) ∙ map-range_with_len_more value_at a n j e

  -- the items of the parts are the values of the words met, in order
  items-values : items bits at (parts_of bits span words) ≡ map value_at (range_with_len 0 (words_met bits span.head span.len))
  items-values =
      let first : ℕ = nat_abs span.word in
      let e : ℕ = words_met bits span.head span.len in
      let P : Parts → Type 0 = λ parts. items bits at parts ≡ map value_at (range_with_len 0 (words_met bits span.head span.len)) in
      table_cases P bits span words
      (λ empty. ap (λ n. map value_at (range_with_len 0 n)) (sym (words_met-none bits span.head span.len (eqb-true span.len 0 empty))))
      (λ some begins ends. append-nil _ ∙ body 0 e first (first + e) (omega arith) (omega arith) (omega arith) (inr (eqb-true span.head 0 begins)) (inr (eqb-true _ bits ends)))
      (λ some begins ends.
      let more = some_word some in
      ap (λ xs. value_at 0 ∷ xs) (append-nil _ ∙ body 1 (e - 1) (first + 1) (first + e) (omega arith) (omega arith) (omega arith) (inl (omega arith)) (inr (eqb-true _ bits ends)))
      ∙ sym (values_first (e - 1) (omega arith)))
      (λ some begins ends.
      let more = some_word some in
      ap (λ xs. xs ++ (value_at (e - 1) ∷ [])) (body 0 (e - 1) first (first + e - 1) (omega arith) (omega arith) (omega arith) (inr (eqb-true span.head 0 begins)) (inl (omega arith)))
      ∙ sym (ap (λ n. map value_at (range_with_len 0 n)) (let f : words_met bits span.head span.len ≡ suc (words_met bits span.head span.len - 1) = omega arith in f) ∙ values_last 0 (e - 1) (e - 1) (omega arith)))
      (λ some begins ends one. sym (values_first 0 (eqb-true _ 1 one)))
      (λ some begins ends one.
      let more = some_word some in
      let differ = eqb-false (words_met bits span.head span.len) 1 one in
      ap (λ xs. value_at 0 ∷ (xs ++ (value_at (e - 1) ∷ []))) (body 1 (e - 2) (first + 1) (first + e - 1) (omega arith) (omega arith) (omega arith) (inl (omega arith)) (inl (omega arith)))
      ∙ sym (values_first (suc (e - 2)) (omega arith) ∙ ap (λ xs. value_at 0 ∷ xs) (values_last 1 (e - 2) (e - 1) (omega arith))))

  -- they are the words of the span's list
  pub items-parts_of : items bits at (parts_of bits span words) ≡ words_of bits at span.head (list_of bits at span words)
  items-parts_of =
      items-values
      ∙ tabulate_same (words_met bits span.head span.len) value_at (word_of bits at span.head (list_of bits at span words)) 0 (λ k h. value_of-part_of bits at span words k in_head h)
      ∙ ap (λ n. tabulate (words_met bits span.head n) (word_of bits at span.head (list_of bits at span words))) (sym (length-list_of bits at span words))

  -- n whole words of a span are no more than the bits of the longest span fill
  filled : (n : ℕ) → span.len ≤ region_max_bits → n * bits ≤ span.len → n ≤ region_max_bits / bits
  filled n short fills = le-div n region_max_bits bits (omega arith) (omega arith)

  -- a slice of a known length
  fills_slice : (from upto n : ℕ) → span.len ≤ region_max_bits → upto ≡ from + n → from + n ≤ length words → n * bits ≤ span.len → length (slice_range words from upto) ≤ region_max_bits / bits
  fills_slice from upto n short e most fills =
      let count : upto - from ≡ n = omega arith in
      let long : length (slice_range words from upto) ≡ n = ap (λ m. length (take m (drop from words))) count ∙ length_slice words from n most in
      rw long (filled n short fills)

  -- the body of the parts is no longer than a span's can be
  pub short-parts_of : span.len ≤ region_max_bits → HasShortBody bits (parts_of bits span words)
  short-parts_of short =
      let first : ℕ = nat_abs span.word in
      let e : ℕ = words_met bits span.head span.len in
      let q : ℕ = (span.head + span.len - 1) / bits in
      let parts = div-add-mod' (span.head + span.len - 1) bits in
      table_cases (HasShortBody bits) bits span words
      (λ empty. zero-le)
      (λ some begins ends.
      let len_some : 0 < span.len = (let differ = eqb-false span.len 0 some in omega arith) in
      let met = words_met-some bits span.head span.len len_some in
      let tail = tail_of-some bits span.head span.len len_some in
      let full = eqb-true _ bits ends in
      let none = eqb-true span.head 0 begins in
      let product : e * bits ≡ (q + 1) * bits = ap (λ n. n * bits) met in
      fills_slice first (first + e) e short (omega arith) within (omega arith))
      (λ some begins ends.
      let len_some : 0 < span.len = (let differ = eqb-false span.len 0 some in omega arith) in
      let met = words_met-some bits span.head span.len len_some in
      let tail = tail_of-some bits span.head span.len len_some in
      let full = eqb-true _ bits ends in
      fills_slice (first + 1) (first + e) q short (omega arith) (omega arith) (omega arith))
      (λ some begins ends.
      let len_some : 0 < span.len = (let differ = eqb-false span.len 0 some in omega arith) in
      let met = words_met-some bits span.head span.len len_some in
      let none = eqb-true span.head 0 begins in
      fills_slice first (first + e - 1) q short (omega arith) (omega arith) (omega arith))
      (λ some begins ends one. zero-le)
      (λ some begins ends one.
      let len_some : 0 < span.len = (let differ = eqb-false span.len 0 some in omega arith) in
      let met = words_met-some bits span.head span.len len_some in
      let differ = eqb-false (words_met bits span.head span.len) 1 one in
      let product : (q - 1 + 1) * bits ≡ q * bits = ap (λ n. n * bits) (let same : q - 1 + 1 ≡ q = omega arith in same) in
      fills_slice (first + 1) (first + e - 1) (q - 1) short (omega arith) (omega arith) (omega arith))

-- the same, of parts that are known to be the span's in a memory
pub items-words_of : {X : Type 0} (bits : ℕ) (at : ℕ → ℕ) (span : Span) (number : X → ℕ) (memory : List X) (parts : Parts) → span.head < bits → Fits bits span (length memory) → parts ≡ parts_of bits span (map number memory) → items bits at parts ≡ words_of bits at span.head (list_of bits at span (map number memory))
items-words_of bits at span number memory parts in_head fits is =
    ap (items bits at) is ∙ items-parts_of bits at span (map number memory) in_head (let within = fits.1 in omega (arith, length-map memory number))

pub short-words_of : {X : Type 0} (bits : ℕ) (at : ℕ → ℕ) (span : Span) (number : X → ℕ) (memory : List X) (parts : Parts) → span.head < bits → span.len ≤ region_max_bits → Fits bits span (length memory) → parts ≡ parts_of bits span (map number memory) → HasShortBody bits parts
short-words_of bits at span number memory parts in_head short fits is =
    rw is (short-parts_of bits at span (map number memory) in_head (let within = fits.1 in omega (arith, length-map memory number)) short)

-- the items of whole words, the last of them behind the others
pub items_last : {X : Type 0} (bits : ℕ) (at : ℕ → ℕ) (number : X → ℕ) (before : List ℕ) (body : List X) (word : X) → value_of bits at (whole_part bits (number word)) ≡ number word
    → before ++ (map (λ w. value_of bits at (whole_part bits w)) (map number (body ++ (word ∷ []))) ++ []) ≡ (before ++ (map (λ w. value_of bits at (whole_part bits w)) (map number body) ++ [])) ++ (number word ∷ [])
items_last bits at number before body word value =
    let f : ℕ → ℕ = λ w. value_of bits at (whole_part bits w) in
    ap (λ xs. before ++ xs) (append-nil _ ∙ ap (map f) (map-append number body (word ∷ [])) ∙ map-append f (map number body) (number word ∷ []) ∙ ap (λ v. map f (map number body) ++ (v ∷ [])) value)
    ∙ sym (append_assoc before (map f (map number body)) (number word ∷ []))
    ∙ ap (λ xs. (before ++ xs) ++ (number word ∷ [])) (sym (append-nil _))

-- how many items there are
length-part_items : (bits : ℕ) (at : ℕ → ℕ) (part : Option Part) (b : Bool) → is_some part ≡ b → bool_byte b ≡ length (part_items bits at part)
length-part_items bits at (Some part) b e = ap bool_byte (sym e)
length-part_items bits at None b e = ap bool_byte (sym e)

pub length-items_region : {X : Type 0} (bits : ℕ) (at : ℕ → ℕ) (number : X → ℕ) (head : Option Part) (body : List X) (tail : Option Part) (a b : Bool) → is_some head ≡ a → is_some tail ≡ b → bool_byte a + length body + bool_byte b ≡ length (items bits at (region head (map number body) tail))
length-items_region bits at number head body tail a b first last =
    let values = map (λ w. value_of bits at (whole_part bits w)) (map number body) in
    let long : length values ≡ length body = length-map (map number body) _ ∙ length-map body number in
    omega (arith, long, length-part_items bits at head a first, length-part_items bits at tail b last, length-append (part_items bits at head) (values ++ part_items bits at tail), length-append values (part_items bits at tail))

-- and that the number of items can be counted, where the body is short
byte_most : (b : Bool) → bool_byte b ≤ 1
byte_most true = omega arith
byte_most false = omega arith

pub region_short : {X : Type 0} (bits : ℕ) (number : X → ℕ) (head : Option Part) (body : List X) (tail : Option Part) (parts : Parts) → parts ≡ region head (map number body) tail → HasShortBody bits parts → length body ≤ region_max_bits / bits
region_short bits number head body tail parts is short = rw (← length-map body number) (rw is at short)

pub region_fits : {X : Type 0} (bits : ℕ) (number : X → ℕ) (head : Option Part) (body : List X) (tail : Option Part) (parts : Parts) (a b : Bool) → 8 ≤ bits → parts ≡ region head (map number body) tail → HasShortBody bits parts → bool_byte a + length body + bool_byte b < 2 ^ 64
region_fits bits number head body tail parts a b wide is short =
    let within = region_short bits number head body tail parts is short in
    let most = quotient_most region_max_bits bits (omega arith) in
    omega (arith, within, most, byte_most a, byte_most b)
