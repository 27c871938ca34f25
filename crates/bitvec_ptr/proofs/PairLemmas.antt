-- What is asked of the pairs of two ranges, from their parts.
use Rattle.std.proofs.Common.{◌≡◌, ◌⊎◌, ℕ, ◌+◌, ◌*◌, ◌-◌, ◌^◌, ◌<◌, ◌≤◌, Bool, true, false, ◌||◌, List, refl, sym, ◌∙◌, ap, arith, inl, inr}
use Rattle.std.proofs.lemmas.Bool.{cases_lt}
use Rattle.bitvec_mem.specs.Digit.{digit, count_below}
use Rattle.bitvec_mem.specs.Ones.{HasNoOne}
use Rattle.bitvec_mem.proofs.DigitLemmas.{count_below-same}
use Rattle.bitvec_order.specs.Order.{IsOneToOne}
use Rattle.bitvec_order.specs.WordEnds.{HasNoIndex, IsFirstIndex}
use Rattle.bitvec_order.proofs.CountLemmas.{count_split, count_most, count_between, count_by_index}
use Rattle.bitvec_ptr.specs.Memory.{bit_of}
use Rattle.bitvec_ptr.specs.Pairs.{pair_of, NoneBelow, IsFirstBelow}

-- the test g of the pairs a places on is the test f
abbrev pub IsOn : ℕ → (ℕ → Bool) → (ℕ → Bool) → Type 0
IsOn a f g = (j : ℕ) → g j ≡ f (a + j)

-- two ranges of pairs of which the one begins a places on from the other
pub pair_on : (f : Bool → Bool → Bool) (bits : ℕ) (at : ℕ → ℕ) (words : List ℕ) (bits2 : ℕ) (at2 : ℕ → ℕ) (others : List ℕ) (a t t2 s s2 : ℕ)
    → t2 ≡ t + a → s2 ≡ s + a → IsOn a (pair_of f bits at words t bits2 at2 others s) (pair_of f bits at words t2 bits2 at2 others s2)
pair_on f bits at words bits2 at2 others a t t2 s s2 e d = λ j.
    let here : t2 + j ≡ t + (a + j) = omega (arith, e) in
    let there : s2 + j ≡ s + (a + j) = omega (arith, d) in
    ap (λ p. f (bit_of bits at words p) (bit_of bits2 at2 others (s2 + j))) here ∙ ap (λ p. f (bit_of bits at words (t + (a + j))) (bit_of bits2 at2 others p)) there

-- a first part, and the part behind it
pub count_joined : (f g : ℕ → Bool) (a b : ℕ) {first rest : ℕ} (n : ℕ) → n ≡ a + b → first ≡ count_below f a → rest ≡ count_below g b → IsOn a f g
    → first + rest ≡ count_below f n
count_joined f g a b n e one two on =
    let same = count_below-same g (λ i. f (a + i)) b (λ p h. on p) in
    let all : count_below f n ≡ count_below f (a + b) = ap (count_below f) e in
    omega (arith, one, two, same, all, count_split f a b)

-- what is counted below n is no more than n
pub count_small : (f : ℕ → Bool) (n : ℕ) {total : ℕ} → total ≡ count_below f n → total ≤ n
count_small f n e = omega (arith, e, count_most f n)

pub none_joined : (f g : ℕ → Bool) (a b n : ℕ) → n ≡ a + b → IsOn a f g → NoneBelow f a → NoneBelow g b → NoneBelow f n
none_joined f g a b n e on one two = λ j h.
    elim (cases_lt j a) [
      | inl l ↦ one j l
      | inr r ↦ (let back : a + (j - a) ≡ j = omega arith in ap f (sym back) ∙ sym (on (j - a)) ∙ two (j - a) (omega arith))
    ]

-- the first of a part is the first of all, if the parts before it have none
pub first_joined : (f g : ℕ → Bool) (a b i n k : ℕ) → n ≡ a + b → k ≡ a + i → IsOn a f g → NoneBelow f a → IsFirstBelow g b i → IsFirstBelow f n k
first_joined f g a b i n k e d on one two = (
  let low = two.0 in omega (arith, e, d, low),
  ap f d ∙ sym (on i) ∙ two.1,
  none_joined f g a i k d on one two.2,
)

pub first_earlier : (f : ℕ → Bool) (a n i : ℕ) → a ≤ n → IsFirstBelow f a i → IsFirstBelow f n i
first_earlier f a n i h is = (let low = is.0 in omega (arith, h, low), is.1, is.2)

-- the word w has, from its index `bit` on, `count` pairs, and no other ones
pub record HasPairs (bits : ℕ) (at : ℕ → ℕ) (pairs : ℕ → Bool) (bit count w : ℕ) : Type 0 where
  pub room : bit + count ≤ bits
  pub inside : (j : ℕ) → j < count → digit w (at (bit + j)) ≡ pairs j
  pub outside : (j : ℕ) → j < bits → (j < bit) ⊎ (bit + count ≤ j) → digit w (at j) ≡ false

-- so its ones are the pairs that are one
pub pairs_counted : {bits : ℕ} {at : ℕ → ℕ} {pairs : ℕ → Bool} {bit count w : ℕ} → HasPairs bits at pairs bit count w → IsOneToOne bits at → w < 2 ^ bits
    → count_below (digit w) bits ≡ count_below pairs count
pairs_counted {bits = bits} {at = at} {pairs = pairs} {bit = bit} {count = count} {w = w} has law below =
    let room = has.room in
    count_by_index bits at w law below
    ∙ count_between (λ i. digit w (at i)) bits bit count room (λ p h. has.outside p (omega arith) (inl h)) (λ p h k. has.outside p h (inr k))
    ∙ count_below-same (λ i. digit w (at (bit + i))) pairs count has.inside

-- where it has no one, no pair is one
pub pairs_none : {bits : ℕ} {at : ℕ → ℕ} {pairs : ℕ → Bool} {bit count w : ℕ} → HasPairs bits at pairs bit count w → HasNoIndex bits at w → NoneBelow pairs count
pairs_none {bit = bit} has none = λ j h. let room = has.room in sym (has.inside j h) ∙ none (bit + j) (omega arith)

-- and its first one is the first pair that is
pub pairs_first : {bits : ℕ} {at : ℕ → ℕ} {pairs : ℕ → Bool} {bit count w : ℕ} → HasPairs bits at pairs bit count w → (i k : ℕ) → k ≡ i - bit
    → IsFirstIndex bits at w i → (bit ≤ i) × IsFirstBelow pairs count k
pairs_first {bits = bits} {at = at} {bit = bit} {count = count} {w = w} has i k e is =
    let room = has.room in
    let small = is.0 in
    let from : bit ≤ i =
    elim (cases_lt i bit) [ inl l ↦ absurd (let off = has.outside i small (inl l) in let on = is.1 in cc) | inr r ↦ r ] in
    let upto : i < bit + count =
    elim (cases_lt i (bit + count)) [ inl l ↦ l | inr r ↦ absurd (let off = has.outside i small (inr r) in let on = is.1 in cc) ] in
    let back : bit + k ≡ i = omega (arith, from, e) in
    let inside : k < count = omega (arith, from, e, upto) in (
      from,
      (
        inside,
        sym (has.inside k inside) ∙ ap (λ p. digit w (at p)) back ∙ is.1,
        λ j h. sym (has.inside j (omega (arith, h, inside))) ∙ is.2 (bit + j) (omega (arith, h, back)),
      ),
    )

both_false : (a b : Bool) → (a || b) ≡ false → (a ≡ false) × (b ≡ false)
both_false false b e = (refl, e)
both_false true b e = absurd (cc)

-- one word more is joined: where there is no one, neither it nor those before have one
pub joined_more : {bits : ℕ} {at : ℕ → ℕ} {g : ℕ → Bool} {w : ℕ} → HasPairs bits at g 0 bits w → IsOneToOne bits at → (f : ℕ → Bool) (before joined a n : ℕ)
    → n ≡ a + bits → IsOn a f g → ((p : ℕ) → p < bits → digit joined p ≡ (digit before p || digit w p))
    → (HasNoOne bits before → NoneBelow f a) → HasNoOne bits joined → NoneBelow f n
joined_more {bits = bits} {at = at} {g = g} {w = w} has law f before joined a n e on digits earlier none =
    let each = λ (p : ℕ) (h : p < bits). both_false (digit before p) (digit w p) (sym (digits p h) ∙ none p h) in
    none_joined f g a bits n e on (earlier (λ p h. (each p h).0)) (pairs_none has (λ i h. (each (at i) (law.below i h)).1))

-- A range of `count` places from index `bit` of word `word` on, with words of `bits` bits, is cut into the `first` places of its
-- first word, `whole` words and the `last` places of its last word; beside it lies a range from place s on, whose parts begin at
-- `middle` and `end`.
pub record IsCut (bits word bit s first whole last middle end count : ℕ) : Type 0 where
  pub inside : bit < bits
  pub first_is : first ≡ bits - bit
  pub all_is : bits - bit + (whole * bits + last) ≡ count
  pub middle_is : middle ≡ s + (bits - bit)
  pub end_is : end ≡ s + (bits - bit + whole * bits)

-- where each part begins, counted from the start
pub record Parts (bits word bit s first whole last middle end count : ℕ) : Type 0 where
  pub here : (word + 1) * bits ≡ word * bits + bit + first
  pub here_end : (word + 1 + whole) * bits + 0 ≡ word * bits + bit + (first + whole * bits)
  pub there : middle ≡ s + first
  pub there_end : end ≡ s + (first + whole * bits)
  pub all : count ≡ first + whole * bits + last
  pub front : first + whole * bits ≡ count - last

pub parts_of : {bits word bit s first whole last middle end count : ℕ} → IsCut bits word bit s first whole last middle end count
    → Parts bits word bit s first whole last middle end count
parts_of {bits = bits} {word = word} {bit = bit} {s = s} {first = first} {whole = whole} {last = last} {middle = middle} {end = end} {count = count} is =
    let inside = is.inside in
    let one = is.first_is in
    let all = is.all_is in
    let two = is.middle_is in
    let three = is.end_is in
    let here : (word + 1) * bits ≡ word * bits + bit + first = omega (arith, one, inside) in
    record {
      here = here;
      here_end = omega (arith, here);
      there = omega (arith, one, two);
      there_end = omega (arith, one, three);
      all = omega (arith, one, all);
      front = omega (arith, one, all);
    }
