-- The bits of a span's parts, one behind the other, are the bits of the span.
use Rattle.std.proofs.Common.{◌≡◌, ℕ, zero, suc, ◌+◌, ◌-◌, ◌*◌, ◌/◌, ◌%◌, ◌<◌, ◌≤◌, Bool, false, List, [], ◌∷◌, ◌++◌, length, map, take, drop, refl, sym, ap, ◌∙◌, inl, inr, arith, append-nil, append_assoc, length-drop, length-take-le}
use Rattle.std.specs.Prelude.{nat_abs, slice_index, slice_range}
use Rattle.std.specs.List.{range_with_len}
use Rattle.std.proofs.lemmas.List.{length-map, get_or-take, get_or-drop}
use Rattle.std.proofs.lemmas.List.FromFn.{length-map-range_with_len, get_or-map-range_with_len, map-range_with_len_more}
use Rattle.std.proofs.lemmas.Bool.{eq-eqb, eqb-true, eqb-false}
use Rattle.std.proofs.lemmas.Nat.{div-add-mod', mod_below}
use Rattle.std.proofs.Math.Nat.{lt_of_mul-lt-mul_right}
use Rattle.bitvec_mem.specs.Digit.{digit}
use Rattle.bitvec_ptr.specs.Memory.{tabulate, bit_of}
use Rattle.bitvec_ptr.specs.Place.{words_met, tail_of}
use Rattle.bitvec_ptr.proofs.PlaceLemmas.{words_met-some, tail_of-some}
use Rattle.bitvec_ptr.proofs.MemoryLemmas.{tabulate_same, tabulate-from_elements, bit_of-place}
use Rattle.bitvec_ptr.proofs.BitLemmas.{bit_of-word}
use Rattle.bitvec_span.specs.Span.{Span, Fits, list_of}
use Rattle.bitvec_span.specs.Parts.{Part, Parts, part_head, part_tail, part_of, parts_of}
use Rattle.bitvec_span.specs.BitParts.{bits_list, part_bits, body_bits, bit_parts_of, joined_bits}
use Rattle.bitvec_span.proofs.PartLemmas.{part_same}
use Rattle.bitvec_span.proofs.ItemLemmas.{table_cases, first_bound, last_bound}

module _ (bits : ℕ) (at : ℕ → ℕ) (span : Span) (words : List ℕ) (in_head : span.head < bits) (within : nat_abs span.word + words_met bits span.head span.len ≤ length words) where
  -- bit j of the span, and its bits from bit a on
  abbrev bit_at : ℕ → Bool
  bit_at j = bit_of bits at words (nat_abs span.word * bits + span.head + j)

  abbrev stretch : ℕ → ℕ → List Bool
  stretch a n = map bit_at (range_with_len a n)

  stretch_table : (a n : ℕ) → stretch a n ≡ tabulate n (λ j. bit_at (a + j))
  stretch_table a n = tabulate-from_elements (stretch a n) n (λ j. bit_at (a + j)) false (length-map-range_with_len bit_at a n) (λ j h. get_or-map-range_with_len bit_at a n j (a + j) false h refl)

  -- a stretch goes on by a stretch
  stretch_join : (a m n b : ℕ) → a + m ≡ b → stretch a m ++ stretch b n ≡ stretch a (m + n)
  stretch_join a m zero b e = append-nil _ ∙ ap (stretch a) (let same : m ≡ m + 0 = omega arith in same)
  stretch_join a m (suc n) b e =
      let next : suc n ≡ n + 1 = omega arith in
      ap (λ k. stretch a m ++ stretch b k) next
      ∙ ap (λ xs. stretch a m ++ xs) (map-range_with_len_more bit_at b n (b + n) refl)
      ∙ sym (append_assoc (stretch a m) (stretch b n) (bit_at (b + n) ∷ []))
      ∙ ap (λ xs. xs ++ (bit_at (b + n) ∷ [])) (stretch_join a m n b e)
      ∙ sym (ap (stretch a) (let same : m + suc n ≡ m + n + 1 = omega arith in same) ∙ map-range_with_len_more bit_at a (m + n) (b + n) (omega arith))

  -- the bits of a part of a word
  part_stretch : (word head tail a : ℕ) → tail ≤ bits → nat_abs span.word * bits + span.head + a ≡ word * bits + head → bits_list bits at (part_bits (record { word = slice_index words word; head = head; tail = tail })) ≡ stretch a (tail - head)
  part_stretch word head tail a most e =
      tabulate_same (tail - head) _ (λ j. bit_at (a + j)) false (λ j h.
      let small : head + j < bits = omega arith in
      ap (bit_of bits at (slice_index words word ∷ [])) (let same : 0 * bits + head + j ≡ 0 * bits + (head + j) = omega arith in same)
      ∙ bit_of-word bits at (slice_index words word ∷ []) 0 (head + j) small
      ∙ sym (ap (bit_of bits at words) (let same : nat_abs span.word * bits + span.head + (a + j) ≡ word * bits + (head + j) = omega arith in same) ∙ bit_of-word bits at words word (head + j) small))
      ∙ sym (stretch_table a (tail - head))

  length_body : (from n : ℕ) → from + n ≤ length words → length (slice_range words from (from + n)) ≡ n
  length_body from n h = ap (λ m. length (take m (drop from words))) (let same : from + n - from ≡ n = omega arith in same) ∙ length-take-le n (drop from words) (omega (arith, length-drop from words))

  -- all bits of whole words
  body_stretch : (from n a upto : ℕ) → from + n ≡ upto → from + n ≤ length words → nat_abs span.word * bits + span.head + a ≡ from * bits → bits_list bits at (body_bits bits (slice_range words from upto)) ≡ stretch a (n * bits)
  body_stretch from n a upto u h e =
      let some : 0 < bits = omega arith in
      let body : List ℕ = slice_range words from (from + n) in
      ap (λ m. bits_list bits at (body_bits bits (slice_range words from m))) (sym u)
      ∙ ap (λ m. tabulate (m * bits) (λ j. bit_of bits at body (0 * bits + 0 + j))) (length_body from n h)
      ∙ tabulate_same (n * bits) (λ j. bit_of bits at body (0 * bits + 0 + j)) (λ j. bit_at (a + j)) false (λ j below.
      let parts = div-add-mod' j bits in
      let inside : j / bits < n = lt_of_mul-lt-mul_right bits (omega (arith, parts)) in
      let count : from + n - from ≡ n = omega arith in
      let word : slice_index body (j / bits) ≡ slice_index words (from + j / bits) =
      ap (λ m. slice_index (take m (drop from words)) (j / bits)) count ∙ get_or-take n (drop from words) (j / bits) 0 inside ∙ get_or-drop from words (j / bits) 0 in
      ap (bit_of bits at body) (let same : 0 * bits + 0 + j ≡ j = omega arith in same)
      ∙ ap (λ w. digit w (at (j % bits))) word
      ∙ sym (ap (bit_of bits at words) (let same : nat_abs span.word * bits + span.head + (a + j) ≡ from * bits + j = omega arith in same) ∙ bit_of-place bits at words from j some))
      ∙ sym (stretch_table a (n * bits))

  -- the bits of the part of the k-th word met
  part_bits_stretch : (k head tail a : ℕ) → part_head span.head k ≡ head → part_tail bits span.head span.len k ≡ tail → tail ≤ bits → nat_abs span.word * bits + span.head + a ≡ (nat_abs span.word + k) * bits + head → bits_list bits at (part_bits (part_of bits span words k)) ≡ stretch a (tail - head)
  part_bits_stretch k head tail a h t most e = ap (λ p. bits_list bits at (part_bits p)) (part_same _ _ _ _ _ _ refl h t) ∙ part_stretch (nat_abs span.word + k) head tail a most e

  first_head : part_head span.head 0 ≡ span.head
  first_head = refl

  last_tail : (k : ℕ) → k + 1 ≡ words_met bits span.head span.len → part_tail bits span.head span.len k ≡ tail_of bits span.head span.len
  last_tail k e = rw (eq-eqb (k + 1) (words_met bits span.head span.len) e) refl

  -- three stretches, one behind the other
  stretch_join_three : (m n k b c : ℕ) → m ≡ b → b + n ≡ c → stretch 0 m ++ (stretch b n ++ stretch c k) ≡ stretch 0 (m + (n + k))
  stretch_join_three m n k b c e f = ap (λ xs. stretch 0 m ++ xs) (stretch_join b n k c f) ∙ stretch_join 0 m (n + k) b (omega arith)

  pub joined-parts_of : joined_bits bits at (bit_parts_of bits (parts_of bits span words)) ≡ list_of bits at span words
  joined-parts_of =
      let first : ℕ = nat_abs span.word in
      let e : ℕ = words_met bits span.head span.len in
      let q : ℕ = (span.head + span.len - 1) / bits in
      let t : ℕ = tail_of bits span.head span.len in
      let parts = div-add-mod' (span.head + span.len - 1) bits in
      let rest = mod_below (span.head + span.len - 1) bits (omega arith) in
      let tail_part : Part = part_of bits span words (words_met bits span.head span.len - 1) in
      let P : Parts → Type 0 = λ p. joined_bits bits at (bit_parts_of bits p) ≡ list_of bits at span words in
      table_cases P bits span words
      (λ empty.
      let none = eqb-true span.len 0 empty in
      append-nil _ ∙ ap (λ n. tabulate n (λ j. bit_of bits at [] (0 * bits + 0 + j))) (let same : length {A = ℕ} [] * bits ≡ 0 = omega arith in same) ∙ sym (ap (stretch 0) none))
      (λ some begins ends.
      let len_some : 0 < span.len = (let differ = eqb-false span.len 0 some in omega arith) in
      let met = words_met-some bits span.head span.len len_some in
      let tail = tail_of-some bits span.head span.len len_some in
      let full = eqb-true _ bits ends in
      let none = eqb-true span.head 0 begins in
      let product : e * bits ≡ (q + 1) * bits = ap (λ n. n * bits) met in
      append-nil _ ∙ body_stretch first e 0 (first + e) refl within (omega arith) ∙ ap (stretch 0) (let same : e * bits ≡ span.len = omega arith in same))
      (λ some begins ends.
      let len_some : 0 < span.len = (let differ = eqb-false span.len 0 some in omega arith) in
      let met = words_met-some bits span.head span.len len_some in
      let tail = tail_of-some bits span.head span.len len_some in
      let full = eqb-true _ bits ends in
      let head_stretch = part_bits_stretch 0 span.head bits 0 first_head (sym (last_bound bits at span words in_head within 0 (inr full))) (omega arith) (omega arith) in
      let body_bits_stretch = body_stretch (first + 1) q (bits - span.head) (first + e) (omega arith) (omega arith) (omega arith) in
      ap (λ xs. xs ++ (bits_list bits at (body_bits bits (slice_range words (first + 1) (first + e))) ++ [])) head_stretch
      ∙ ap (λ xs. stretch 0 (bits - span.head) ++ xs) (append-nil _ ∙ body_bits_stretch)
      ∙ stretch_join 0 (bits - span.head) (q * bits) (bits - span.head) (omega arith)
      ∙ ap (stretch 0) (let same : bits - span.head + q * bits ≡ span.len = omega arith in same))
      (λ some begins ends.
      let len_some : 0 < span.len = (let differ = eqb-false span.len 0 some in omega arith) in
      let met = words_met-some bits span.head span.len len_some in
      let tail = tail_of-some bits span.head span.len len_some in
      let none = eqb-true span.head 0 begins in
      let body_bits_stretch = body_stretch first q 0 (first + e - 1) (omega arith) (omega arith) (omega arith) in
      let product : (first + (e - 1)) * bits ≡ (first + q) * bits = ap (λ n. (first + n) * bits) (let same : e - 1 ≡ q = omega arith in same) in
      let tail_stretch = part_bits_stretch (e - 1) 0 t (q * bits) (sym (first_bound bits at span words in_head within (e - 1) (inr none))) (last_tail (e - 1) (omega arith)) (omega arith) (omega arith) in
      ap (λ xs. xs ++ bits_list bits at (part_bits tail_part)) body_bits_stretch
      ∙ ap (λ xs. stretch 0 (q * bits) ++ xs) tail_stretch
      ∙ stretch_join 0 (q * bits) (t - 0) (q * bits) (omega arith)
      ∙ ap (stretch 0) (let same : q * bits + (t - 0) ≡ span.len = omega arith in same))
      (λ some begins ends one.
      let len_some : 0 < span.len = (let differ = eqb-false span.len 0 some in omega arith) in
      let met = words_met-some bits span.head span.len len_some in
      let tail = tail_of-some bits span.head span.len len_some in
      let single = eqb-true _ 1 one in
      let product : q * bits ≡ 0 * bits = ap (λ n. n * bits) (let same : q ≡ 0 = omega arith in same) in
      part_bits_stretch 0 span.head t 0 first_head (last_tail 0 (omega arith)) (omega arith) (omega arith)
      ∙ ap (stretch 0) (let same : t - span.head ≡ span.len = omega arith in same))
      (λ some begins ends one.
      let len_some : 0 < span.len = (let differ = eqb-false span.len 0 some in omega arith) in
      let met = words_met-some bits span.head span.len len_some in
      let tail = tail_of-some bits span.head span.len len_some in
      let differ = eqb-false (words_met bits span.head span.len) 1 one in
      let product : (q - 1 + 1) * bits ≡ q * bits = ap (λ n. n * bits) (let same : q - 1 + 1 ≡ q = omega arith in same) in
      let last : (first + (e - 1)) * bits ≡ (first + q) * bits = ap (λ n. (first + n) * bits) (let same : e - 1 ≡ q = omega arith in same) in
      let head_stretch = part_bits_stretch 0 span.head bits 0 first_head (sym (last_bound bits at span words in_head within 0 (inl (omega arith)))) (omega arith) (omega arith) in
      let body_bits_stretch = body_stretch (first + 1) (q - 1) (bits - span.head) (first + e - 1) (omega arith) (omega arith) (omega arith) in
      let tail_stretch = part_bits_stretch (e - 1) 0 t (q * bits - span.head) (sym (first_bound bits at span words in_head within (e - 1) (inl (omega arith)))) (last_tail (e - 1) (omega arith)) (omega arith) (omega arith) in
      ap (λ xs. xs ++ (bits_list bits at (body_bits bits (slice_range words (first + 1) (first + e - 1))) ++ bits_list bits at (part_bits tail_part))) head_stretch
      ∙ ap (λ xs. stretch 0 (bits - span.head) ++ (xs ++ bits_list bits at (part_bits tail_part))) body_bits_stretch
      ∙ ap (λ xs. stretch 0 (bits - span.head) ++ (stretch (bits - span.head) ((q - 1) * bits) ++ xs)) tail_stretch
      ∙ stretch_join_three (bits - span.head) ((q - 1) * bits) (t - 0) (bits - span.head) (q * bits - span.head) refl (omega arith)
      ∙ ap (stretch 0) (let same : bits - span.head + ((q - 1) * bits + (t - 0)) ≡ span.len = omega arith in same))

-- the same, of parts that are known to be the span's in a memory
pub joined-words_of : {X : Type 0} (bits : ℕ) (at : ℕ → ℕ) (span : Span) (number : X → ℕ) (memory : List X) (parts : Parts) → span.head < bits → Fits bits span (length memory) → parts ≡ parts_of bits span (map number memory) → joined_bits bits at (bit_parts_of bits parts) ≡ list_of bits at span (map number memory)
joined-words_of bits at span number memory parts in_head fits is =
    ap (λ p. joined_bits bits at (bit_parts_of bits p)) is ∙ joined-parts_of bits at span (map number memory) in_head (let within = fits.1 in omega (arith, length-map memory number))
