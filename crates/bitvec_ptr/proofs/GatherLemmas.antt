-- How the bits of a word are gathered and put in place: under a mask, from one or two words that are read, by digits.
use Rattle.std.proofs.Common.{◌≡◌, ◌⊎◌, ⊎_elim, ℕ, ◌+◌, ◌*◌, ◌-◌, ◌/◌, ◌%◌, ◌^◌, ◌<◌, ◌≤◌, Bool, true, false, not, ◌&&◌, ◌||◌, min, List, length}
use Rattle.std.proofs.Common.{get_or, refl, sym, ◌∙◌, ap, arith, inl, inr}
use Rattle.std.specs.Prelude.{slice_index, slice_set}
use Rattle.std.proofs.Math.Bool.{and-true}
use Rattle.std.proofs.Math.ListN.{length-set}
use Rattle.std.proofs.Math.Nat.{mul-le-mul_right, mod-le}
use Rattle.std.proofs.lemmas.Bool.{cases_lt, cases_eq, le-leb, lt-leb, lt-ltb, le-ltb}
use Rattle.std.proofs.lemmas.List.{get_or-set_same, get_or-set_other}
use Rattle.std.proofs.lemmas.Nat.{div-add-mod', mod_below, pow_pos}
use Rattle.bitvec_mem.specs.Digit.{digit}
use Rattle.bitvec_mem.specs.SameDigits.{same_from_digits}
use Rattle.bitvec_mem.proofs.DigitLemmas.{digit-mod, digit_above, digit_all}
use Rattle.bitvec_order.specs.Order.{IsOneToOne, IsMaskOf, Falls}
use Rattle.bitvec_order.proofs.IndexLemmas.{digit-mask_at}
use Rattle.bitvec_ptr.specs.declared.ptr.copy.gather.Way.{Way}
use Rattle.bitvec_ptr.specs.Ways.{Allows}
use Rattle.bitvec_ptr.specs.Memory.{bit_of, memory_bits, list_with}
use Rattle.bitvec_ptr.proofs.BitLemmas.{length-memory_bits, get_or-memory_bits, bit_of-word}
use Rattle.bitvec_ptr.proofs.CombineLemmas.{combined_from_points}

choose_with : (w v m : Bool) → m ≡ true → ((w && not m) || (v && m)) ≡ v
choose_with true true true e = refl
choose_with true false true e = refl
choose_with false true true e = refl
choose_with false false true e = refl
choose_with w v false e = absurd (cc)

choose_word : (w v m : Bool) → m ≡ false → ((w && not m) || (v && m)) ≡ w
choose_word true true false e = refl
choose_word true false false e = refl
choose_word false true false e = refl
choose_word false false false e = refl
choose_word w v true e = absurd (cc)

-- r is a word, but another under a mask of `count` indices from `from` on
pub record IsMasked (bits : ℕ) (at : ℕ → ℕ) (from count mask word with r : ℕ) : Type 0 where
  pub law : IsOneToOne bits at
  pub room : from + count ≤ bits
  pub ones : IsMaskOf bits at from (from + count) mask
  pub digits : (i : ℕ) → i < bits → digit r (at i) ≡ ((digit word (at i) && not (digit mask (at i))) || (digit with (at i) && digit mask (at i)))

-- so it has the other's bits there, and its own elsewhere
pub masked_inside : {bits : ℕ} {at : ℕ → ℕ} {from count mask word with r : ℕ} → IsMasked bits at from count mask word with r
    → (j : ℕ) → j < count → digit r (at (from + j)) ≡ digit with (at (from + j))
masked_inside {bits = bits} {at = at} {from = from} {count = count} {mask = mask} {word = word} {with = with} is j h =
    let room = is.room in
    let small : from + j < bits = omega arith in
    let low : from ≤ from + j = omega arith in
    let high : from + j < from + count = omega arith in
    let set : digit mask (at (from + j)) ≡ true =
    digit-mask_at bits at from (from + count) mask (from + j) is.law is.room is.ones small
    ∙ (rw (le-leb from (from + j) low, lt-ltb (from + j) (from + count) high) refl) in
    is.digits (from + j) small ∙ choose_with (digit word (at (from + j))) (digit with (at (from + j))) (digit mask (at (from + j))) set

pub masked_outside : {bits : ℕ} {at : ℕ → ℕ} {from count mask word with r : ℕ} → IsMasked bits at from count mask word with r
    → (j : ℕ) → j < bits → (j < from) ⊎ (from + count ≤ j) → digit r (at j) ≡ digit word (at j)
masked_outside {bits = bits} {at = at} {from = from} {count = count} {mask = mask} {word = word} {with = with} is j h (inl l) =
    let clear : digit mask (at j) ≡ false = digit-mask_at bits at from (from + count) mask j is.law is.room is.ones h ∙ (rw (lt-leb from j l) refl) in
    is.digits j h ∙ choose_word (digit word (at j)) (digit with (at j)) (digit mask (at j)) clear
masked_outside {bits = bits} {at = at} {from = from} {count = count} {mask = mask} {word = word} {with = with} is j h (inr l) =
    let below : from ≤ j = omega arith in
    let clear : digit mask (at j) ≡ false =
    digit-mask_at bits at from (from + count) mask j is.law is.room is.ones h ∙ (rw (le-leb from j below, le-ltb j (from + count) l) refl) in
    is.digits j h ∙ choose_word (digit word (at j)) (digit with (at j)) (digit mask (at j)) clear

-- v is the word of some index of a memory, but `count` bits from `bit` on, each of which f makes of what it was and of a bit of
-- a source, from place s on
pub record IsCombinedWord (f : Bool → Bool → Bool) (bits : ℕ) (at : ℕ → ℕ) (src : List ℕ) (s bits2 : ℕ) (at2 : ℕ → ℕ) (words : List ℕ)
    (word bit count v : ℕ) : Type 0 where
  pub some : 0 < count
  pub end : bit + count ≤ bits2
  pub inside : word < length words
  pub has : s + count ≤ length src * bits
  pub digits : (j : ℕ) → j < count → digit v (at2 (bit + j)) ≡ f (digit (slice_index words word) (at2 (bit + j))) (bit_of bits at src (s + j))
  pub others : (j : ℕ) → j < bits2 → (j < bit) ⊎ (bit + count ≤ j) → digit v (at2 j) ≡ digit (slice_index words word) (at2 j)

-- put in its place, it makes the memory's bits the combination
pub word_combined : {f : Bool → Bool → Bool} {bits : ℕ} {at : ℕ → ℕ} {src : List ℕ} {s bits2 : ℕ} {at2 : ℕ → ℕ} {words : List ℕ}
    {word bit count v : ℕ}
    → IsCombinedWord f bits at src s bits2 at2 words word bit count v
    → memory_bits bits2 at2 (slice_set words word v)
    ≡ list_with f (memory_bits bits at src) s (memory_bits bits2 at2 words) (word * bits2 + bit) count
word_combined
    {f = f} {bits = bits} {at = at} {src = src} {s = s} {bits2 = bits2} {at2 = at2} {words = words} {word = word} {bit = bit} {count = count} {v = v}
    made =
    let some = made.some in
    let end = made.end in
    let inside = made.inside in
    let has = made.has in
    let m = length-memory_bits bits at src in
    let n = length-memory_bits bits2 at2 words in
    let long : length (slice_set words word v) ≡ length words = length-set words word v in
    let same : length (slice_set words word v) * bits2 ≡ length words * bits2 = ap (λ k. k * bits2) long in
    let after = length-memory_bits bits2 at2 (slice_set words word v) in
    let next : (word + 1) * bits2 ≤ length words * bits2 = mul-le-mul_right bits2 (omega arith) in
    let row : word * bits2 + bits2 ≤ length words * bits2 = omega (arith, next) in
    let fits : word * bits2 + bit + count ≤ length (memory_bits bits2 at2 words) = omega (arith, row, n) in
    let holds : s + count ≤ length (memory_bits bits at src) = omega (arith, has, m) in
    combined_from_points f (memory_bits bits at src) s (memory_bits bits2 at2 words) (word * bits2 + bit) count fits holds
    (memory_bits bits2 at2 (slice_set words word v))
    (after ∙ same ∙ sym n)
    (λ j d r.
    let here : word * bits2 + bit + j < length (slice_set words word v) * bits2 = omega (arith, row, same) in
    let before : word * bits2 + bit + j < length words * bits2 = omega (arith, row) in
    let there : s + j < length src * bits = omega (arith, has) in
    let index : bit + j < bits2 = omega arith in
    let place : word * bits2 + bit + j ≡ word * bits2 + (bit + j) = omega arith in
    get_or-memory_bits bits2 at2 (slice_set words word v) (word * bits2 + bit + j) d here
    ∙ ap (bit_of bits2 at2 (slice_set words word v)) place
    ∙ bit_of-word bits2 at2 (slice_set words word v) word (bit + j) index
    ∙ ap (λ w. digit w (at2 (bit + j))) (get_or-set_same words word v 0 inside)
    ∙ made.digits j r
    ∙ sym (ap (λ b. f b (get_or (memory_bits bits at src) (s + j) d))
    (get_or-memory_bits bits2 at2 words (word * bits2 + bit + j) d before
    ∙ ap (bit_of bits2 at2 words) place
    ∙ bit_of-word bits2 at2 words word (bit + j) index)
    ∙ ap (f (digit (slice_index words word) (at2 (bit + j)))) (get_or-memory_bits bits at src (s + j) d there)))
    (λ q d r u.
    let was : q < length words * bits2 = omega (arith, n) in
    let is : q < length (slice_set words word v) * bits2 = omega (arith, same, was) in
    let parts = div-add-mod' q bits2 in
    let small = mod_below q bits2 (let p : 0 < bits2 = omega arith in p) in
    get_or-memory_bits bits2 at2 (slice_set words word v) q d is
    ∙ elim (cases_eq (q / bits2) word) [
      | inl e ↦ (
          let f : q ≡ word * bits2 + q % bits2 = sym parts ∙ ap (λ w. w * bits2 + q % bits2) e in
          let apart : (q % bits2 < bit) ⊎ (bit + count ≤ q % bits2) =
          ⊎_elim (λ a. let l : q % bits2 < bit = omega arith in inl l) (λ b. let l : bit + count ≤ q % bits2 = omega arith in inr l) u in
          ap (λ w. digit (slice_index (slice_set words word v) w) (at2 (q % bits2))) e
          ∙ ap (λ w. digit w (at2 (q % bits2))) (get_or-set_same words word v 0 inside)
          ∙ made.others (q % bits2) small apart
          ∙ sym (ap (λ w. digit (slice_index words w) (at2 (q % bits2))) e))
      | inr differ ↦ ap (λ w. digit w (at2 (q % bits2))) (get_or-set_other words word (q / bits2) v 0 differ)
    ]
    ∙ sym (get_or-memory_bits bits2 at2 words q d was))

-- v has, from its index `bit` on, `count` bits of two words, from index s of the first on
pub record IsFromPair (bits : ℕ) (at at2 : ℕ → ℕ) (s bit count v low high : ℕ) : Type 0 where
  pub most : s < bits
  pub end : count ≤ bits
  pub first : (j : ℕ) → j < count → s + j < bits → digit v (at2 (bit + j)) ≡ digit low (at (s + j))
  pub second : (j : ℕ) → j < count → bits ≤ s + j → digit v (at2 (bit + j)) ≡ digit high (at (s + j - bits))

-- where these two are neighbours in a memory, it has the memory's bits
pub pair_bits : {bits : ℕ} {at at2 : ℕ → ℕ} {s bit count v low high : ℕ} → IsFromPair bits at at2 s bit count v low high → (src : List ℕ) (k : ℕ)
    → low ≡ slice_index src k → (bits < s + count → high ≡ slice_index src (k + 1))
    → (j : ℕ) → j < count → digit v (at2 (bit + j)) ≡ bit_of bits at src (k * bits + s + j)
pair_bits {bits = bits} {at = at} {s = s} {count = count} is src k this next j h =
    let most = is.most in
    let end = is.end in
    elim (cases_lt (s + j) bits) [
      | inl l ↦ (
          let place : k * bits + s + j ≡ k * bits + (s + j) = omega arith in
          is.first j h l ∙ ap (λ n. digit n (at (s + j))) this ∙ sym (ap (bit_of bits at src) place ∙ bit_of-word bits at src k (s + j) l))
      | inr r ↦ (
          let place : k * bits + s + j ≡ (k + 1) * bits + (s + j - bits) = omega arith in
          let index : s + j - bits < bits = omega arith in
          let past : bits < s + count = omega arith in
          is.second j h r ∙ ap (λ n. digit n (at (s + j - bits))) (next past)
          ∙ sym (ap (bit_of bits at src) place ∙ bit_of-word bits at src (k + 1) (s + j - bits) index))
    ]

-- what a way asks of other indices of the two sides
pub allows_elsewhere : (way : Way) (bits : ℕ) (at : ℕ → ℕ) (bits2 : ℕ) (at2 : ℕ → ℕ) (from to from2 to2 : ℕ) → Allows way bits at bits2 at2 from to
    → (bits ≡ bits2 → from ≡ to → from2 ≡ to2) → Allows way bits at bits2 at2 from2 to2
allows_elsewhere way bits at bits2 at2 from to from2 to2 a same = record {
  width = a.width;
  whole = λ e. (same (a.width e) (a.whole e).0, (a.whole e).1);
  rising = a.rising;
  falling = a.falling;
}

-- `after` is `before`, but `share` more bits behind the `done` from index `bit` on: those of a word that is read, from `index` on
pub record IsShared (bits : ℕ) (at : ℕ → ℕ) (bits2 : ℕ) (at2 : ℕ → ℕ) (index bit done share read before after : ℕ) : Type 0 where
  pub room : bit + done + share ≤ bits2
  pub fits : index + share ≤ bits
  pub inside : (j : ℕ) → j < share → digit after (at2 (bit + done + j)) ≡ digit read (at (index + j))
  pub outside : (j : ℕ) → j < bits2 → (j < bit + done) ⊎ (bit + done + share ≤ j) → digit after (at2 j) ≡ digit before (at2 j)

-- so where `before` has the first bits of a memory, `after` has the next too, and all others are as they were at first
pub gathered_inside : {bits : ℕ} {at : ℕ → ℕ} {bits2 : ℕ} {at2 : ℕ → ℕ} {index bit done share read before after : ℕ}
    → IsShared bits at bits2 at2 index bit done share read before after → (src : List ℕ) (word s : ℕ)
    → word * bits + index ≡ s + done → read ≡ slice_index src word
    → ((j : ℕ) → j < done → digit before (at2 (bit + j)) ≡ bit_of bits at src (s + j))
    → (j : ℕ) → j < done + share → digit after (at2 (bit + j)) ≡ bit_of bits at src (s + j)
gathered_inside {bits = bits} {at = at} {at2 = at2} {index = index} {bit = bit} {done = done} {after = after} is src word s place this begun j h =
    let room = is.room in
    let fits = is.fits in
    elim (cases_lt j done) [
      | inl l ↦ is.outside (bit + j) (omega arith) (inl (omega arith)) ∙ begun j l
      | inr r ↦ (
          let back : bit + done + (j - done) ≡ bit + j = omega arith in
          let small : index + (j - done) < bits = omega arith in
          let there : word * bits + (index + (j - done)) ≡ s + j = omega arith in
          ap (λ v. digit after (at2 v)) (sym back) ∙ is.inside (j - done) (omega arith) ∙ ap (λ v. digit v (at (index + (j - done)))) this
          ∙ sym (bit_of-word bits at src word (index + (j - done)) small) ∙ ap (bit_of bits at src) there)
    ]

pub gathered_outside : {bits : ℕ} {at : ℕ → ℕ} {bits2 : ℕ} {at2 : ℕ → ℕ} {index bit done share read before after : ℕ}
    → IsShared bits at bits2 at2 index bit done share read before after → (begin : ℕ)
    → ((j : ℕ) → j < bits2 → (j < bit) ⊎ (bit + done ≤ j) → digit before (at2 j) ≡ digit begin (at2 j))
    → (j : ℕ) → j < bits2 → (j < bit) ⊎ (bit + (done + share) ≤ j) → digit after (at2 j) ≡ digit begin (at2 j)
gathered_outside is begin begun j h u =
    elim u [
      | inl l ↦ is.outside j h (inl (omega arith)) ∙ begun j h (inl l)
      | inr r ↦ is.outside j h (inr (omega arith)) ∙ begun j h (inr (omega arith))
    ]

-- a number whose digits from `count` on are not set is below 2 ^ count
pub below_digits : (bits count n : ℕ) → n < 2 ^ bits → count ≤ bits → ((p : ℕ) → p < bits → count ≤ p → digit n p ≡ false) → n < 2 ^ count
below_digits bits count n h le none =
    let low : n % 2 ^ count < 2 ^ count = mod_below n (2 ^ count) (pow_pos count) in
    let same : n ≡ n % 2 ^ count =
    same_from_digits bits n (n % 2 ^ count) h (omega (arith, mod-le n (2 ^ count), h))
    (λ p r. elim (cases_lt p count) [
      | inl l ↦ sym (digit-mod n count p l)
      | inr g ↦ none p r g ∙ sym (digit_above (n % 2 ^ count) count p low g)
    ]) in
    omega (arith, same, low)

-- `low` is n shifted down by `from`, and `mask` is `all` ones shifted down to the lowest `count`
pub record IsShiftedDown (bits from count n low all mask : ℕ) : Type 0 where
  pub fits : from + count ≤ bits
  pub ones : all ≡ 2 ^ bits - 1
  pub down : (q : ℕ) → from + q < bits → digit low q ≡ digit n (from + q)
  pub masks : (q : ℕ) → bits - count + q < bits → digit mask q ≡ digit all (bits - count + q)

-- under the mask there are `count` digits of n from `from` on
pub carried_digit : {bits from count n low all mask : ℕ} → IsShiftedDown bits from count n low all mask
    → (p : ℕ) → p < count → (digit low p && digit mask p) ≡ digit n (from + p)
carried_digit {bits = bits} {count = count} {low = low} is p h =
    let fits = is.fits in
    let there : bits - count + p < bits = omega arith in
    ap (λ b. digit low p && b) (is.masks p there ∙ ap (λ v. digit v (bits - count + p)) is.ones ∙ digit_all bits (bits - count + p) there)
    ∙ and-true (digit low p) ∙ is.down p (omega arith)

-- the place where a share ends is the first of the next word, where there is more to read
pub share_end : (bits word index s done share count : ℕ) → index < bits → word * bits + index ≡ s + done → share ≡ min (bits - index) (count - done)
    → done + share < count → (word + 1) * bits + 0 ≡ s + (done + share)
share_end bits word index s done share count low reads e h =
    let all : share ≡ bits - index = omega arith in
    omega (arith, all)

-- `after` has, from index `bit` on, `count` bits of `with`, whose digits were carried there from `read`, under orders that fall
pub record IsCarriedFalling (bits : ℕ) (at : ℕ → ℕ) (bits2 : ℕ) (at2 : ℕ → ℕ) (from bit count lowest position read with after : ℕ) : Type 0 where
  pub falls : Falls bits at
  pub falls2 : Falls bits2 at2
  pub fits : from + count ≤ bits
  pub room : bit + count ≤ bits2
  pub lowest_is : lowest ≡ bits - from - count
  pub position_is : position ≡ bits2 - bit - count
  pub moved : (p : ℕ) → p < count → digit with (position + p) ≡ digit read (lowest + p)
  pub put : (j : ℕ) → j < count → digit after (at2 (bit + j)) ≡ digit with (at2 (bit + j))

-- they are those of `read` from index `from` on
pub falling_bits : {bits : ℕ} {at : ℕ → ℕ} {bits2 : ℕ} {at2 : ℕ → ℕ} {from bit count lowest position read with after : ℕ}
    → IsCarriedFalling bits at bits2 at2 from bit count lowest position read with after
    → (j : ℕ) → j < count → digit after (at2 (bit + j)) ≡ digit read (at (from + j))
falling_bits
    {bits = bits} {bits2 = bits2} {from = from} {bit = bit} {count = count} {lowest = lowest} {position = position} {read = read} {with = with} is j
    h =
    let fits = is.fits in
    let room = is.room in
    let e = is.lowest_is in
    let e' = is.position_is in
    let here : bits2 - 1 - (bit + j) ≡ position + (count - 1 - j) = omega arith in
    let there : lowest + (count - 1 - j) ≡ bits - 1 - (from + j) = omega arith in
    is.put j h ∙ ap (digit with) (is.falls2 (bit + j) (omega arith) ∙ here) ∙ is.moved (count - 1 - j) (omega arith)
    ∙ ap (digit read) (there ∙ sym (is.falls (from + j) (omega arith)))
