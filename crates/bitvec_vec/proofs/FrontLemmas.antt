-- The first bits of a memory: how many words they take, and that the words behind those have no part in them. `bits` is
-- the width of a word, and `at` takes an index to its position.
use Rattle.std.proofs.Common.{◌≡◌, ℕ, ◌+◌, ◌-◌, ◌*◌, ◌/◌, ◌%◌, ◌<◌, ◌≤◌, ◌==◌, false, List, ◌++◌, length, take, sym, ap, ◌∙◌, inl, inr, arith, if◌then◌else◌}
use Rattle.std.specs.Prelude.{pos, slice_index}
use Rattle.std.proofs.Math.Nat.{div-eq_of_lt, mod-eq_of_lt, lt_of_mul-lt-mul_right, mul-le-mul_right}
use Rattle.std.proofs.lemmas.Bool.{cases_eq, eq-eqb, ne_eqb}
use Rattle.std.proofs.lemmas.List.{get_or_append_left, get_or-take}
use Rattle.std.proofs.lemmas.List.FromFn.{take-map-range_with_len}
use Rattle.std.proofs.lemmas.Nat.{div-add-mod', mod_below}
use Rattle.bitvec.specs.Digit.{digit}
use Rattle.bitvec.specs.Span.{span_at, front_span}
use Rattle.bitvec.proofs.MemoryLemmas.{tabulate_same}
use Rattle.bitvec.proofs.PartLemmas.{length-list_of}
use Rattle.bitvec.proofs.PlaceLemmas.{words_met-some}
use Rattle.bitvec_slice.proofs.SlicePartLemmas.{whole_fits}
use Rattle.bitvec_vec.specs.Front.{front_bits, words_for}

-- the span of `len` bits from the first place on
pub front-at : (bits len : ℕ) → 0 < bits → span_at bits 0 len ≡ front_span len
front-at bits len some =
    let q : 0 / bits ≡ 0 = div-eq_of_lt some in
    let r : 0 % bits ≡ 0 = mod-eq_of_lt some in
    λ i. record { word = pos (q i); head = r i; len = len }

pub length-front : (bits : ℕ) (at : ℕ → ℕ) (len : ℕ) (words : List ℕ) → length (front_bits bits at len words) ≡ len
length-front bits at len words = length-list_of bits at (front_span len) words

-- `a` rows have no more bits than `b`, where `a` is no greater
pub rows : (bits a b : ℕ) → a ≤ b → a * bits ≤ b * bits
rows bits a b h = mul-le-mul_right bits h

-- the words have all the bits
pub words_enough : (bits len : ℕ) → 0 < bits → len ≤ words_for bits len * bits
words_enough bits len some =
    elim (cases_eq len 0) [
      | inl none ↦ omega (arith, none)
      | inr other ↦ (
          let parts = div-add-mod' (0 + len - 1) bits in
          let rest = mod_below (0 + len - 1) bits some in
          let met = words_met-some bits 0 len (omega (arith, other)) in
          let row : words_for bits len * bits ≡ ((0 + len - 1) / bits + 1) * bits = ap (λ n. n * bits) met in
          omega (arith, parts, rest, row, other))
    ]

-- fewer have not
pub words_least : (bits len n : ℕ) → len ≤ n * bits → words_for bits len ≤ n
words_least bits len n h = let both = whole_fits bits n len h in omega (arith, both.1)

-- so there is no other such number
pub words_are : (bits len n : ℕ) → 0 < bits → len ≤ n * bits → n * bits < len + bits → words_for bits len ≡ n
words_are bits len n some enough near =
    let most = words_least bits len n enough in
    let room = words_enough bits len some in
    let more : n * bits < (words_for bits len + 1) * bits = omega (arith, near, room) in
    let less : n < words_for bits len + 1 = lt_of_mul-lt-mul_right bits more in
    omega (arith, most, less)

-- a quotient rounded up
pub words-rounded : (bits len : ℕ) → 0 < bits → len / bits + (if len % bits == 0 then 0 else 1) ≡ words_for bits len
words-rounded bits len some =
    let parts = div-add-mod' len bits in
    let rest = mod_below len bits some in
    elim (cases_eq (len % bits) 0) [
      | inl whole ↦ rw (eq-eqb (len % bits) 0 whole)
          (let n : ℕ = len / bits in sym (words_are bits len (len / bits + 0) some (omega (arith, parts, whole)) (omega (arith, parts, whole, some))))
      | inr other ↦ rw (ne_eqb (len % bits) 0 other)
          (sym (words_are bits len (len / bits + 1) some (omega (arith, parts, rest)) (omega (arith, parts, rest, other))))
    ]

-- one bit more takes one word more where the words are full
pub words-full : (bits len : ℕ) → 0 < bits → len % bits ≡ 0 → (words_for bits len * bits ≡ len) × (words_for bits (len + 1) ≡ words_for bits len + 1)
words-full bits len some whole =
    let parts = div-add-mod' len bits in
    let here = words_are bits len (len / bits) some (omega (arith, parts, whole)) (omega (arith, parts, whole, some)) in
    let row : words_for bits len * bits ≡ len / bits * bits = ap (λ n. n * bits) here in
    let next = words_are bits (len + 1) (len / bits + 1) some (omega (arith, parts, whole, some)) (omega (arith, parts, whole, some)) in
    (omega (arith, row, parts, whole), omega (arith, here, next))

-- else it takes none
pub words-room : (bits len : ℕ) → 0 < bits → ¬ (len % bits ≡ 0) → words_for bits (len + 1) ≡ words_for bits len
words-room bits len some other =
    let parts = div-add-mod' len bits in
    let rest = mod_below len bits some in
    let here = words_are bits len (len / bits + 1) some (omega (arith, parts, rest)) (omega (arith, parts, rest, other)) in
    let next = words_are bits (len + 1) (len / bits + 1) some (omega (arith, parts, rest)) (omega (arith, parts, rest, other)) in
    next ∙ sym here

-- fewer bits take no more words
pub words_fewer : (bits n len : ℕ) → 0 < bits → n ≤ len → words_for bits n ≤ words_for bits len
words_fewer bits n len some h = words_least bits n (words_for bits len) (omega (arith, h, words_enough bits len some))

module _ (bits : ℕ) (at : ℕ → ℕ) where
  -- fewer of the first bits
  pub take-front : (n len : ℕ) (words : List ℕ) → n ≤ len → take n (front_bits bits at len words) ≡ front_bits bits at n words
  take-front n len words h = take-map-range_with_len _ 0 len n h

  -- words that have the same where the bits lie have the same bits
  pub front_same : (len : ℕ) (old new : List ℕ) → 0 < bits → ((w : ℕ) → w * bits < len → slice_index new w ≡ slice_index old w)
      → front_bits bits at len new ≡ front_bits bits at len old
  front_same len old new some same =
      tabulate_same len _ _ false (λ j h.
      let parts = div-add-mod' (0 * bits + 0 + j) bits in
      ap (λ w. digit w (at ((0 * bits + 0 + j) % bits))) (same ((0 * bits + 0 + j) / bits) (omega (arith, parts, h))))

  -- words behind those of the bits
  pub front-append : (len : ℕ) (words more : List ℕ) → 0 < bits → len ≤ length words * bits → front_bits bits at len (words ++ more) ≡ front_bits bits at len words
  front-append len words more some room =
      front_same len words (words ++ more) some (λ w h.
      let inside : w * bits < length words * bits = omega (arith, h, room) in
      get_or_append_left words more 0 w (lt_of_mul-lt-mul_right bits inside))

  pub front-take : (len n : ℕ) (words : List ℕ) → 0 < bits → len ≤ n * bits → front_bits bits at len (take n words) ≡ front_bits bits at len words
  front-take len n words some room =
      front_same len words (take n words) some (λ w h.
      let inside : w * bits < n * bits = omega (arith, h, room) in
      get_or-take n words w 0 (lt_of_mul-lt-mul_right bits inside))
