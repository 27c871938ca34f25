-- The list of a span whose words were turned: their bits moved to the span's places, and what is not the span's put back.
use Rattle.std.proofs.Common.{◌≡◌, ℕ, ◌+◌, ◌-◌, ◌*◌, ◌/◌, ◌%◌, ◌<◌, ◌≤◌, ◌&&◌, Bool, true, false, nat_le, nat_lt, if◌then◌else◌, List, ◌++◌, length, get_or, map, take, drop, refl, sym, ap, subst, ◌∙◌, inl, inr, arith, length-append, length-drop, length-take-le}
use Rattle.std.specs.Prelude.{pos, nat_abs, reverse, slice_index, slice_set}
use Rattle.std.proofs.Math.ListN.{length-set}
use Rattle.std.proofs.lemmas.Bool.{cases_eq, cases_lt, le-leb, lt-ltb, lt-leb, le-ltb}
use Rattle.std.proofs.lemmas.List.{get_or-map, get_or-reverse, get_or-set_same, get_or-set_other, get_or_append_left, get_or-append_right, length-map, length-reverse, map-append, take-append-drop}
use borrow.Rule.Slice.PartMut.{mid_of, post_of, put_mid}
use Rattle.std.proofs.lemmas.Nat.{div-add-mod', div-mul-add, mod-mul-add, mod_below, div_below, row_fits}
use Rattle.bitvec.specs.Digit.{digit}
use Rattle.bitvec.specs.Order.{IsOneToOne, IsMaskOf}
use Rattle.bitvec.proofs.IndexLemmas.{digit-mask_at}
use Rattle.bitvec.specs.Memory.{bit_of}
use Rattle.bitvec.specs.Place.{words_met, tail_of}
use Rattle.bitvec.proofs.MemoryLemmas.{bit_of-place, tabulate-from_elements}
use Rattle.bitvec.proofs.PlaceLemmas.{words_met-some, tail_of-some}
use Rattle.bitvec.specs.Parts.{part_head, part_tail}
use Rattle.bitvec.specs.Span.{Span, Covers, Fits, BecomesList, list_of, element}
use Rattle.bitvec.proofs.BecomesLemmas.{becomes}
use Rattle.bitvec.proofs.CoverLemmas.{covers-own}
use Rattle.bitvec.proofs.PartLemmas.{element-list_of, length-list_of, inside-from_part, part-from_inside}
use Rattle.bitvec_slice.specs.Turns.{Mirrors, TurnsWords, PutsBack}

-- the digit of a mask of indices
in_part : (h t i : ℕ) → h ≤ i → i < t → (nat_le h i && nat_lt i t) ≡ true
in_part h t i from upto = rw (le-leb h i from, lt-ltb i t upto) refl

off_part : (h t i : ℕ) → (h ≤ i → i < t → ⊥) → (nat_le h i && nat_lt i t) ≡ false
off_part h t i out = elim (cases_lt i h) [
  | inl before ↦ rw (lt-leb h i before) refl
  | inr from ↦ elim (cases_lt i t) [
    | inl upto ↦ absurd (out from upto)
    | inr behind ↦ rw (le-leb h i from, le-ltb i t behind) refl
  ]
]

-- Of the word number k that a span meets the digits in the mask of the span's part are kept, and the others are those of
-- the number `saved`, which makes `word`.
pub record IsMerged (bits : ℕ) (at : ℕ → ℕ) (span : Span) (k saved : ℕ) (old new : List ℕ) (mask word : ℕ) : Type 0 where
  pub law : IsOneToOne bits at
  pub in_head : span.head < bits
  pub met : k < words_met bits span.head span.len
  pub within : part_tail bits span.head span.len k ≤ bits
  pub masked : IsMaskOf bits at (part_head span.head k) (part_tail bits span.head span.len k) mask
  pub inside : nat_abs span.word + k < length old
  pub put : new ≡ slice_set old (nat_abs span.word + k) word
  pub digits : (p : ℕ) → p < bits → digit word p ≡ (if digit mask p then digit (slice_index old (nat_abs span.word + k)) p else digit saved p)

-- so what is not the span's in that word is put back
pub put-back : (bits : ℕ) (at : ℕ → ℕ) (span : Span) (k saved : ℕ) (old new : List ℕ) (mask word : ℕ) → IsMerged bits at span k saved old new mask word → PutsBack bits at span k saved old new
put-back bits at span k saved old new mask word is =
    let here : ℕ = nat_abs span.word + k in
    let same : slice_index new here ≡ word = ap (λ (ns : List ℕ). get_or ns here 0) is.put ∙ get_or-set_same old here word 0 is.inside in
    let marked = λ (i : ℕ) (h : i < bits). digit-mask_at bits at (part_head span.head k) (part_tail bits span.head span.len k) mask i is.law is.within is.masked h in
    record {
      words = ap length is.put ∙ length-set old here word;
      others = λ w other. ap (λ (ns : List ℕ). get_or ns w 0) is.put ∙ get_or-set_other old here w word 0 other;
      kept =
          λ i h from upto.
          let part = part-from_inside bits span.head span.len k i is.in_head h is.met from upto in
          ap (λ n. digit n (at i)) same
          ∙ is.digits (at i) (is.law.below i h)
          ∙ ap (λ b. if b then digit (slice_index old here) (at i) else digit saved (at i))
          (marked i h ∙ in_part (part_head span.head k) (part_tail bits span.head span.len k) i part.0 part.1);
      restored =
          λ i h out.
          ap (λ n. digit n (at i)) same
          ∙ is.digits (at i) (is.law.below i h)
          ∙ ap (λ b. if b then digit (slice_index old here) (at i) else digit saved (at i))
          (marked i h ∙ off_part (part_head span.head k) (part_tail bits span.head span.len k) i
          (λ from upto. let part = inside-from_part bits span.head span.len k i is.in_head h is.met from upto in out part.0 part.1));
    }

-- The words that a span meets are turned in place, and no other word changes.
pub record TurnsMet (bits first count : ℕ) (old new : List ℕ) : Type 0 where
  pub words : length new ≡ length old
  pub inside : (k p : ℕ) → k < count → p < bits → digit (slice_index new (first + k)) p ≡ digit (slice_index old (first + (count - 1 - k))) (bits - 1 - p)
  pub before : (w : ℕ) → w < first → slice_index new w ≡ slice_index old w
  pub behind : (w : ℕ) → first + count ≤ w → slice_index new w ≡ slice_index old w

-- a word that was read
pub read-word : {W : Type 0} (number : W → ℕ) (memory : List W) (index here : ℕ) (word : W) → index ≡ here → here < length memory → word ≡ get_or memory index word → number word ≡ slice_index (map number memory) here
read-word number memory index here word same inside is =
    ap number is ∙ sym (get_or-map number memory index word 0 (omega (arith, same, inside))) ∙ ap (slice_index (map number memory)) same

-- some words of a memory are turned
module _ {W : Type 0} (number : W → ℕ) (bits a k : ℕ) (xs ys : List W) (within : a + k ≤ length xs) (turns : TurnsWords bits (map number (mid_of a k xs)) (map number ys)) where
  abbrev front : List ℕ
  front = map number (take a xs)

  abbrev mid : List ℕ
  mid = map number (mid_of a k xs)

  abbrev rest : List ℕ
  rest = map number (post_of a k xs)

  long_front : length front ≡ a
  long_front = length-map (take a xs) number ∙ length-take-le a xs (omega (arith, within))

  long_mid : length mid ≡ k
  long_mid = length-map (mid_of a k xs) number ∙ length-take-le k (drop a xs) (omega (arith, within, length-drop a xs))

  long_now : length (map number ys) ≡ k
  long_now = turns.words ∙ long_mid

  three : (zs : List W) → map number (put_mid a k xs zs) ≡ front ++ (map number zs ++ rest)
  three zs = map-append number (take a xs) (zs ++ post_of a k xs) ∙ ap (λ r. front ++ r) (map-append number zs (post_of a k xs))

  whole : map number xs ≡ front ++ (mid ++ rest)
  whole = ap (map number) (sym (ap (λ zs. take a xs ++ zs) (take-append-drop k (drop a xs)) ∙ take-append-drop a xs)) ∙ three (mid_of a k xs)

  at_mid : (zs : List ℕ) (j : ℕ) → length zs ≡ k → j < k → get_or (front ++ (zs ++ rest)) (a + j) 0 ≡ get_or zs j 0
  at_mid zs j long small =
      get_or-append_right front (zs ++ rest) a (a + j) 0 long_front (omega arith)
      ∙ ap (λ m. get_or (zs ++ rest) m 0) (let e : a + j - a ≡ j = omega arith in e)
      ∙ get_or_append_left zs rest 0 j (omega (arith, long, small))

  at_rest : (zs : List ℕ) (w : ℕ) → length zs ≡ k → a + k ≤ w → get_or (front ++ (zs ++ rest)) w 0 ≡ get_or rest (w - a - k) 0
  at_rest zs w long past =
      get_or-append_right front (zs ++ rest) a w 0 long_front (omega (arith, past))
      ∙ get_or-append_right zs rest k (w - a) 0 long (omega (arith, past))

  part-turned : TurnsMet bits a k (map number xs) (map number (put_mid a k xs ys))
  part-turned =
      let now : List ℕ = map number ys in
      record {
        words =
            ap length (three ys) ∙ length-append front (now ++ rest) ∙ ap (λ m. length front + m) (length-append now rest ∙ ap (λ m. m + length rest) (long_now ∙ sym long_mid) ∙ sym (length-append mid rest))
            ∙ sym (ap length whole ∙ length-append front (mid ++ rest));
        inside =
            λ j p small less.
            let back : ℕ = k - 1 - j in
            ap (λ (ns : List ℕ). digit (get_or ns (a + j) 0) p) (three ys)
            ∙ ap (λ v. digit v p) (at_mid now j long_now small)
            ∙ turns.digits j p (omega (arith, small, long_mid)) less
            ∙ ap (λ m. digit (get_or mid (m - 1 - j) 0) (bits - 1 - p)) long_mid
            ∙ ap (λ v. digit v (bits - 1 - p)) (sym (at_mid mid back long_mid (omega (arith, small))))
            ∙ ap (λ (ns : List ℕ). digit (get_or ns (a + back) 0) (bits - 1 - p)) (sym whole);
        before =
            λ w less.
            let inside : w < length front = omega (arith, less, long_front) in
            ap (λ (ns : List ℕ). get_or ns w 0) (three ys)
            ∙ get_or_append_left front (now ++ rest) 0 w inside
            ∙ sym (ap (λ (ns : List ℕ). get_or ns w 0) whole ∙ get_or_append_left front (mid ++ rest) 0 w inside);
        behind =
            λ w past.
            ap (λ (ns : List ℕ). get_or ns w 0) (three ys)
            ∙ at_rest now w long_now past
            ∙ sym (ap (λ (ns : List ℕ). get_or ns w 0) whole ∙ at_rest mid w long_mid past);
      }

-- the same, where the part is known by other names
pub turns-met : {W : Type 0} (number : W → ℕ) (bits first count a k : ℕ) (xs ys : List W) → a ≡ first → k ≡ count → first + count ≤ length xs
    → TurnsWords bits (map number (mid_of a k xs)) (map number ys)
    → TurnsMet bits first count (map number xs) (map number (put_mid a k xs ys))
turns-met number bits first count a k xs ys is_first is_count within turns =
    subst (λ m. TurnsMet bits m count (map number xs) (map number (put_mid a k xs ys))) is_first
    (subst (λ m. TurnsMet bits a m (map number xs) (map number (put_mid a k xs ys))) is_count
    (part-turned number bits a k xs ys (omega (arith, is_first, is_count, within)) turns))

-- one row more
one_row : (t bits : ℕ) → (t + 1) * bits ≡ t * bits + bits
one_row t bits = omega arith

-- where a span ends in its last word
pub span-ends : (bits head len : ℕ) → 0 < len → (words_met bits head len - 1) * bits + tail_of bits head len ≡ head + len
span-ends bits head len some =
    let met = words_met-some bits head len some in
    let last = tail_of-some bits head len some in
    let parts = div-add-mod' (head + len - 1) bits in
    let less : words_met bits head len - 1 ≡ (head + len - 1) / bits = omega (arith, met) in
    ap (λ m. m * bits + tail_of bits head len) less ∙ omega (arith, last, parts, some)

pub tail-most : (bits head len : ℕ) → 0 < bits → 0 < len → tail_of bits head len ≤ bits
tail-most bits head len some more = omega (arith, tail_of-some bits head len more, mod_below (head + len - 1) bits some)

pub tail-least : (bits head len : ℕ) → 0 < len → 0 < tail_of bits head len
tail-least bits head len more = omega (arith, tail_of-some bits head len more)

-- the bits of a span's length from bit `from` on are in the words of the span, where `from` is as far behind a word's
-- start as the span's end is before its word's end
pub source-fits : (bits : ℕ) (span : Span) (from words : ℕ) → 0 < bits → 0 < span.len → from + tail_of bits span.head span.len ≡ bits → Fits bits span words
    → Fits bits (record { word = span.word; head = from; len = span.len }) words
source-fits bits span from words some more start fits =
    let n : ℕ = words_met bits span.head span.len in
    let ends = span-ends bits span.head span.len more in
    let met = words_met-some bits span.head span.len more in
    let one : n - 1 + 1 ≡ n = omega (arith, met) in
    let rows : (n - 1) * bits + bits ≡ n * bits = sym (one_row (n - 1) bits) ∙ ap (λ m. m * bits) one in
    let less = div_below (from + span.len - 1) bits n some (omega (arith, rows, ends, start, more)) in
    (fits.0, omega (arith, fits.1, less, words_met-some bits from span.len more))

-- The four steps: the words are turned, the bits are moved, and in the first and in the last word the others put back.
pub record IsTurnedBy (bits : ℕ) (at : ℕ → ℕ) (span : Span) (from : ℕ) (old turned moved mended new : List ℕ) : Type 0 where
  pub in_head : span.head < bits
  pub some : 0 < span.len
  pub fits : Fits bits span (length old)
  pub law : IsOneToOne bits at
  pub mirrors : Mirrors bits at
  pub start : from + tail_of bits span.head span.len ≡ bits
  pub turns : TurnsMet bits (nat_abs span.word) (words_met bits span.head span.len) old turned
  pub moves : BecomesList bits at span turned moved (list_of bits at (record { word = span.word; head = from; len = span.len }) turned)
  pub first : PutsBack bits at span 0 (slice_index old (nat_abs span.word)) moved mended
  pub last : PutsBack bits at span (words_met bits span.head span.len - 1) (slice_index old (nat_abs span.word + (words_met bits span.head span.len - 1))) mended new

-- a bit of a span stays where the others of a word are put back
kept_inside : (bits : ℕ) (at : ℕ → ℕ) (span : Span) (k saved : ℕ) (old new : List ℕ) → 0 < bits → PutsBack bits at span k saved old new → (j : ℕ) → j < span.len
    → bit_of bits at new (nat_abs span.word * bits + (span.head + j)) ≡ bit_of bits at old (nat_abs span.word * bits + (span.head + j))
kept_inside bits at span k saved old new some back j h =
    let f : ℕ = nat_abs span.word in
    let q : ℕ = (span.head + j) / bits in
    let i : ℕ = (span.head + j) % bits in
    let parts = div-add-mod' (span.head + j) bits in
    bit_of-place bits at new f (span.head + j) some
    ∙ elim (cases_eq q k) [
      | inl here ↦ (
          ap (λ n. digit (slice_index new (f + n)) (at i)) here
          ∙ back.kept i (mod_below (span.head + j) bits some)
          (let same : k * bits + i ≡ span.head + j = ap (λ n. n * bits + i) (sym here) ∙ parts in omega (arith, same))
          (let same : k * bits + i ≡ span.head + j = ap (λ n. n * bits + i) (sym here) ∙ parts in omega (arith, same, h))
          ∙ ap (λ n. digit (slice_index old (f + n)) (at i)) (sym here))
      | inr other ↦ ap (λ n. digit n (at i)) (back.others (f + q) (λ e. other (omega (arith, e))))
    ]
    ∙ sym (bit_of-place bits at old f (span.head + j) some)

-- rows of a table, some before others
split_rows : (t q m bits : ℕ) → t + q ≡ m → t * bits + q * bits ≡ m * bits
split_rows t q m bits e = let all = ap (λ k. k * bits) e in omega (arith, all)

-- A span of `len` bits from the bit `head` on ends at the bit `tail` of the word number `last`. The `len` bits from the
-- bit `from` on end with that word, and number j of those is at the index i of the word number q, which is t words
-- before it.
record IsPlaced (bits head len last tail from j q i t : ℕ) : Type 0 where
  pub ends : last * bits + tail ≡ head + len
  pub start : from + tail ≡ bits
  pub place : q * bits + i ≡ from + j
  pub words : t + q ≡ last
  pub small : i < bits
  pub inside : j < len

-- so the span's bit as far from its end as that is from the start stands as far from the other end of the words
mirror_place : (bits head len last tail from j q i t : ℕ) → IsPlaced bits head len last tail from j q i t → head + (len - 1 - j) ≡ t * bits + (bits - 1 - i)
mirror_place bits head len last tail from j q i t is =
    let rows = split_rows t q last bits is.words in
    omega (arith, is.ends, is.start, is.place, rows, is.small, is.inside)

-- the bit at an index of a word
bit_row : (bits : ℕ) (at : ℕ → ℕ) (words : List ℕ) (f t s : ℕ) → 0 < bits → s < bits → bit_of bits at words (f * bits + (t * bits + s)) ≡ digit (slice_index words (f + t)) (at s)
bit_row bits at words f t s some small =
    bit_of-place bits at words f (t * bits + s) some
    ∙ (λ m. digit (slice_index words (f + div-mul-add t bits s small m)) (at (mod-mul-add t bits s small m)))

module _ (bits : ℕ) (at : ℕ → ℕ) (span : Span) (from : ℕ) (old turned moved mended new : List ℕ) (is : IsTurnedBy bits at span from old turned moved mended new) where
  abbrev f : ℕ
  f = nat_abs span.word

  abbrev n : ℕ
  n = words_met bits span.head span.len

  abbrev tail : ℕ
  tail = tail_of bits span.head span.len

  positive : 0 < bits
  positive = omega (arith, is.in_head)

  -- where the span ends
  ends : (n - 1) * bits + tail ≡ span.head + span.len
  ends = span-ends bits span.head span.len is.some

  some_word : 0 < n
  some_word = omega (arith, words_met-some bits span.head span.len is.some)

  some_tail : 0 < tail
  some_tail = omega (arith, tail_of-some bits span.head span.len is.some)

  all_bits : (n - 1) * bits + bits ≡ n * bits
  all_bits = let one : n - 1 + 1 ≡ n = omega (arith, some_word) in sym (one_row (n - 1) bits) ∙ ap (λ m. m * bits) one

  -- a bit of the turned words
  mirrored : (k i : ℕ) → k < n → i < bits → digit (slice_index turned (f + k)) (at i) ≡ digit (slice_index old (f + (n - 1 - k))) (at (bits - 1 - i))
  mirrored k i less small =
      is.turns.inside k (at i) less (is.law.below i small)
      ∙ ap (digit (slice_index old (f + (n - 1 - k)))) (sym (is.mirrors i small))

  -- the bits from bit `from` of the turned words on are the span's in the opposite order
  moved_bit : (j : ℕ) → j < span.len → bit_of bits at turned (f * bits + (from + j)) ≡ bit_of bits at old (f * bits + (span.head + (span.len - 1 - j)))
  moved_bit j h =
      let q : ℕ = (from + j) / bits in
      let i : ℕ = (from + j) % bits in
      let parts = div-add-mod' (from + j) bits in
      let small = mod_below (from + j) bits positive in
      let less : q < n = div_below (from + j) bits n positive (omega (arith, ends, all_bits, is.start, h)) in
      let place = mirror_place bits span.head span.len (n - 1) tail from j q i (n - 1 - q)
      (record { ends = ends; start = is.start; place = parts; words = omega (arith, less); small = small; inside = h }) in
      bit_of-place bits at turned f (from + j) positive
      ∙ mirrored q i less small
      ∙ sym (ap (λ r. bit_of bits at old (f * bits + r)) place ∙ bit_row bits at old f (n - 1 - q) (bits - 1 - i) positive (omega (arith, positive)))

  inside : (j : ℕ) → j < span.len → bit_of bits at new (f * bits + span.head + j) ≡ element (reverse (list_of bits at span old)) j
  inside j h =
      let xs : List Bool = list_of bits at span old in
      let long = length-list_of bits at span old in
      let joined : f * bits + span.head + j ≡ f * bits + (span.head + j) = omega arith in
      let back : ℕ = span.len - 1 - j in
      ap (bit_of bits at new) joined
      ∙ kept_inside bits at span (n - 1) (slice_index old (f + (n - 1))) mended new positive is.last j h
      ∙ kept_inside bits at span 0 (slice_index old f) moved mended positive is.first j h
      ∙ ap (bit_of bits at moved) (sym joined)
      ∙ sym (element-list_of bits at span moved j h)
      ∙ ap (λ (ys : List Bool). element ys j) is.moves.list
      ∙ element-list_of bits at (record { word = span.word; head = from; len = span.len }) turned j h
      ∙ ap (bit_of bits at turned) (let e : f * bits + from + j ≡ f * bits + (from + j) = omega arith in e)
      ∙ moved_bit j h
      ∙ ap (bit_of bits at old) (let e : f * bits + (span.head + back) ≡ f * bits + span.head + back = omega arith in e)
      ∙ sym (element-list_of bits at span old back (omega (arith, h)))
      ∙ ap (λ m. element xs (m - 1 - j)) (sym long)
      ∙ sym (get_or-reverse xs j false (omega (arith, long, h)))

  -- a place in word number k of the span's that is not one of its bits
  uncovered : (place k : ℕ) → (Covers bits span (pos place) → ⊥) → f + k ≡ place / bits → span.head ≤ k * bits + place % bits → k * bits + place % bits < span.head + span.len → ⊥
  uncovered place k out word low high =
      let rows = split_rows f k (place / bits) bits word in
      let parts = div-add-mod' place bits in
      let same : f * bits + span.head + (k * bits + place % bits - span.head) ≡ place = omega (arith, rows, parts, low) in
      out (subst (λ p. Covers bits span (pos p)) same (covers-own bits span (length old) (k * bits + place % bits - span.head) is.fits (omega (arith, low, high))))

  -- a place in none of the span's words
  elsewhere : (place : ℕ) → (Covers bits span (pos place) → ⊥) → (place / bits ≡ f + 0 → ⊥) → (place / bits ≡ f + (n - 1) → ⊥) → slice_index turned (place / bits) ≡ slice_index old (place / bits) → bit_of bits at new place ≡ bit_of bits at old place
  elsewhere place out not_first not_last same =
      ap (λ v. digit v (at (place % bits))) (is.last.others (place / bits) not_last ∙ is.first.others (place / bits) not_first)
      ∙ is.moves.others place out
      ∙ ap (λ v. digit v (at (place % bits))) same

  -- a place in the last of them
  in_last : (place : ℕ) → (Covers bits span (pos place) → ⊥) → place / bits ≡ f + (n - 1) → bit_of bits at new place ≡ bit_of bits at old place
  in_last place out word =
      ap (λ w. digit (slice_index new w) (at (place % bits))) word
      ∙ is.last.restored (place % bits) (mod_below place bits positive) (uncovered place (n - 1) out (sym word))
      ∙ ap (λ w. digit (slice_index old w) (at (place % bits))) (sym word)

  -- a place in the first that is not in the last
  in_first : (place : ℕ) → (Covers bits span (pos place) → ⊥) → place / bits ≡ f + 0 → (place / bits ≡ f + (n - 1) → ⊥) → bit_of bits at new place ≡ bit_of bits at old place
  in_first place out word not_last =
      ap (λ v. digit v (at (place % bits))) (is.last.others (place / bits) not_last)
      ∙ ap (λ w. digit (slice_index mended w) (at (place % bits))) word
      ∙ is.first.restored (place % bits) (mod_below place bits positive) (uncovered place 0 out (sym word))
      ∙ ap (λ w. digit (slice_index old w) (at (place % bits))) (let e : f ≡ place / bits = omega (arith, word) in e)

  -- all others are the span's
  in_between : (place : ℕ) → (Covers bits span (pos place) → ⊥) → f < place / bits → place / bits < f + (n - 1) → ⊥
  in_between place out after before =
      let k : ℕ = place / bits - f in
      let low = row_fits 0 bits k bits (omega (arith, after)) (omega arith) in
      let high = row_fits k bits (n - 1) bits (omega (arith, before, after)) (omega arith) in
      let small = mod_below place bits positive in
      uncovered place k out (omega (arith, after)) (omega (arith, low, is.in_head)) (omega (arith, high, small, ends))

  outside : (place : ℕ) → (Covers bits span (pos place) → ⊥) → bit_of bits at new place ≡ bit_of bits at old place
  outside place out = elim (cases_lt (place / bits) f) [
    | inl before ↦ elsewhere place out (λ e. omega (arith, e, before)) (λ e. omega (arith, e, before)) (is.turns.before (place / bits) before)
    | inr from_first ↦ elim (cases_lt (place / bits) (f + n)) [
      | inr behind ↦ elsewhere place out (λ e. omega (arith, e, behind, some_word)) (λ e. omega (arith, e, behind, some_word)) (is.turns.behind (place / bits) behind)
      | inl within ↦ elim (cases_eq (place / bits) (f + (n - 1))) [
        | inl last ↦ in_last place out last
        | inr not_last ↦ elim (cases_eq (place / bits) (f + 0)) [
          | inl first ↦ in_first place out first not_last
          | inr not_first ↦ absurd (in_between place out (omega (arith, from_first, not_first)) (omega (arith, within, not_last)))
        ]
      ]
    ]
  ]

  -- together they reverse the span's list
  pub turned-becomes : BecomesList bits at span old new (reverse (list_of bits at span old))
  turned-becomes =
      let xs : List Bool = list_of bits at span old in
      becomes bits at span old new (reverse xs)
      (sym (tabulate-from_elements (reverse xs) span.len (λ j. bit_of bits at new (f * bits + span.head + j)) false (length-reverse xs ∙ length-list_of bits at span old) (λ j h. sym (inside j h))))
      outside
      (is.last.words ∙ is.first.words ∙ is.moves.words ∙ is.turns.words)
