-- Numbers put into lists of bits, by the words' parts.
use Rattle.std.proofs.Common.{◌≡◌, ℕ, ◌+◌, ◌-◌, ◌/◌, ◌%◌, ◌^◌, ◌<◌, ◌≤◌, ◌&&◌, Bool, true, false, not, ◌||◌, ◌*◌, nat_le, nat_lt, if◌then◌else◌, List, length, refl, sym, ap, ◌∙◌, inl, inr, arith, bit_and}
use Rattle.std.proofs.lemmas.Bool.{cases_order, cases_lt, lt-ltb, le-ltb, le-leb, lt-leb, eq-eqb, ne_eqb}
use Rattle.std.proofs.lemmas.Nat.{mod_below, pow_pos}
use Rattle.std.proofs.Math.Nat.{mod-lt}
use Rattle.bitvec.specs.Digit.{digit}
use Rattle.bitvec.specs.Memory.{tabulate}
use Rattle.bitvec.specs.Order.{number_of}
use Rattle.bitvec.specs.Place.{words_met}
use Rattle.bitvec.specs.Span.{element, with_word}
use Rattle.bitvec.proofs.DigitLemmas.{digit-and, digit_all, digit-mod}
use Rattle.bitvec.proofs.IndexLemmas.{number_of-from_digits}
use Rattle.bitvec.proofs.MemoryLemmas.{length-tabulate, get_or-tabulate, tabulate-from_elements, tabulate_same}
use Rattle.bitvec_slice.specs.Field.{IsSequential, stretch_start, stretch_end, digit_place, field_number, field_list, part_place, part_step, part_shift}
use Rattle.bitvec_slice.proofs.FieldLemmas.{met_word, met_bounds, place_in_part, position_in_part, step_within, digit_places}

-- the low digits of a number
pub masked : (bits a mask p : ℕ) → mask ≡ 2 ^ bits - 1 → p < bits → digit (bit_and a mask) p ≡ digit a p
masked bits a mask p e h = digit-and a mask p ∙ rw (e, digit_all bits p h) (and_true (digit a p))
  where
    and_true : (x : Bool) → (x && true) ≡ x
    and_true true = refl
    and_true false = refl

-- the word made of the digits that lie in it: `part` is the number moved down and `r` is its low digits moved up
module _ (bits head len k v : ℕ) (some : 0 < bits) (in_head : head < bits) (j : ℕ) (inside : j < len) (word : (head + j) / bits ≡ k) where
  pub stored_digit : (big rises : Bool) (at : ℕ → ℕ) (most part r : ℕ) → IsSequential bits rises at → len ≤ most
      → ((p : ℕ) → part_place big bits head len k + p < most → digit part p ≡ digit v (part_place big bits head len k + p))
      → ((p : ℕ) → part_shift rises bits head len k + p < bits → digit r (part_shift rises bits head len k + p) ≡ digit part p)
      → digit r (at ((head + j) % bits)) ≡ digit v (digit_place big bits rises head len j)
  stored_digit big rises at most part r law enough down up =
      let lies = position_in_part bits head len some in_head j k inside word rises in
      let within = step_within bits head len some in_head j k inside word big rises in
      ap (digit r) (law.positions ((head + j) % bits) (mod_below (head + j) bits some) ∙ lies.0)
      ∙ up (part_step rises bits head len k j) lies.1
      ∙ down (part_step rises bits head len k j) (omega (arith, within, enough))
      ∙ ap (digit v) (sym (place_in_part bits head len some in_head j k inside word big rises))

-- ---- one word after another

-- the list xs as far as the words before word k have it, and the list ys from there on
abbrev pub stored_before : ℕ → ℕ → ℕ → ℕ → List Bool → List Bool → List Bool
stored_before bits head len k xs ys = tabulate len (λ j. if nat_lt ((head + j) / bits) k then element xs j else element ys j)

pub stored_none : (bits head len : ℕ) (xs ys : List Bool) → length ys ≡ len → ys ≡ stored_before bits head len 0 xs ys
stored_none bits head len xs ys long =
    tabulate-from_elements ys len (λ j. if nat_lt ((head + j) / bits) 0 then element xs j else element ys j) false long (λ j h. rw (le-ltb ((head + j) / bits) 0 (omega arith)) refl)

pub stored_more : (bits head len k : ℕ) (xs ys zs : List Bool) → zs ≡ stored_before bits head len k xs ys → with_word bits head zs k (element xs) ≡ stored_before bits head len (k + 1) xs ys
stored_more bits head len k xs ys zs is =
    let long : length zs ≡ len = ap length is ∙ length-tabulate len (λ j. if nat_lt ((head + j) / bits) k then element xs j else element ys j) in
    rw long (tabulate_same len _ _ false (λ j h.
    let was : element zs j ≡ (if nat_lt ((head + j) / bits) k then element xs j else element ys j) = ap (λ (l : List Bool). element l j) is ∙ get_or-tabulate len (λ i. if nat_lt ((head + i) / bits) k then element xs i else element ys i) j false h in
    elim (cases_order ((head + j) / bits) k) [
      | inl same ↦ (rw (eq-eqb ((head + j) / bits) k same, lt-ltb ((head + j) / bits) (k + 1) (omega arith)) refl)
      | inr (inl below) ↦ (
          rw (ne_eqb ((head + j) / bits) k (λ s. absurd (omega arith)), lt-ltb ((head + j) / bits) (k + 1) (omega arith)) (was ∙ rw (lt-ltb ((head + j) / bits) k below) refl))
      | inr (inr above) ↦ (
          rw (ne_eqb ((head + j) / bits) k (λ s. absurd (omega arith)), le-ltb ((head + j) / bits) (k + 1) (omega arith)) (was ∙ rw (le-ltb ((head + j) / bits) k (omega arith)) refl))
    ]))

pub stored_all : (bits head len : ℕ) (xs ys : List Bool) → 0 < bits → length xs ≡ len → stored_before bits head len (words_met bits head len) xs ys ≡ xs
stored_all bits head len xs ys some long =
    sym (tabulate-from_elements xs len (λ j. if nat_lt ((head + j) / bits) (words_met bits head len) then element xs j else element ys j) false long
    (λ j h. rw (lt-ltb ((head + j) / bits) (words_met bits head len) (met_word bits head len j some h)) refl))

-- ---- a number that is stored and loaded

pub length-field_list : (big : Bool) (bits : ℕ) (rises : Bool) (head n v : ℕ) → length (field_list big bits rises head n v) ≡ n
length-field_list big bits rises head n v = length-tabulate n (λ j. digit v (digit_place big bits rises head n j))

pub stored_loads : (big rises : Bool) (bits head n v : ℕ) → 0 < bits → head < bits → field_number big bits rises head (field_list big bits rises head n v) ≡ v % 2 ^ n
stored_loads big rises bits head n v some in_head =
    let xs = field_list big bits rises head n v in
    let law = digit_places bits head n some in_head big rises in
    ap (λ m. number_of (digit_place big bits rises head m) (element (field_list big bits rises head n v)) m) (length-field_list big bits rises head n v)
    ∙ sym (number_of-from_digits n (digit_place big bits rises head n) (element (field_list big bits rises head n v)) (v % 2 ^ n) law (mod-lt v (pow_pos n))
    (λ j h. digit-mod v n (digit_place big bits rises head n j) (law.below j h) ∙ sym (get_or-tabulate n (λ i. digit v (digit_place big bits rises head n i)) j false h)))

-- the list of a number is that of its low digits
pub field_list_low : (big rises : Bool) (bits head len n m : ℕ) → 0 < bits → head < bits → n % 2 ^ len ≡ m → field_list big bits rises head len n ≡ field_list big bits rises head len m
field_list_low big rises bits head len n m some in_head is =
    let law = digit_places bits head len some in_head big rises in
    tabulate_same len _ _ false (λ j h. sym (digit-mod n len (digit_place big bits rises head len j) (law.below j h)) ∙ ap (λ k. digit k (digit_place big bits rises head len j)) is)

-- ---- the mask of a word's part

-- two pairs of tests that hold alike
pub same_tests : (a b c d e f x y : ℕ) → (a ≤ b → c < d → (e ≤ f) × (x < y)) → (e ≤ f → x < y → (a ≤ b) × (c < d)) → (nat_le a b && nat_lt c d) ≡ (nat_le e f && nat_lt x y)
same_tests a b c d e f x y there back = elim (cases_lt b a) [
  | inl less ↦ elim (cases_lt f e) [
    | inl low ↦ rw (lt-leb a b less, lt-leb e f low) refl
    | inr high ↦ elim (cases_lt x y) [
      | inl below ↦ absurd (let h = back high below in omega (arith, h.0, less))
      | inr above ↦ rw (lt-leb a b less, le-leb e f high, le-ltb x y above) refl
    ]
  ]
  | inr more ↦ elim (cases_lt c d) [
    | inl below ↦ (let h = there more below in rw (le-leb a b more, lt-ltb c d below, le-leb e f h.0, lt-ltb x y h.1) refl)
    | inr above ↦ elim (cases_lt f e) [
      | inl low ↦ rw (le-leb a b more, le-ltb c d above, lt-leb e f low) refl
      | inr high ↦ elim (cases_lt x y) [
        | inl less ↦ absurd (let h = back high less in omega (arith, h.1, above))
        | inr past ↦ rw (le-leb a b more, le-ltb c d above, le-leb e f high, le-ltb x y past) refl
      ]
    ]
  ]
]

-- `count` ones, moved up by `up` digits
pub ones_up : (bits count up m r p : ℕ) → ((q : ℕ) → q < bits → digit m q ≡ nat_lt q count) → ((q : ℕ) → q < up → digit r q ≡ false) → ((q : ℕ) → up + q < bits → digit r (up + q) ≡ digit m q)
    → p < bits → digit r p ≡ (nat_le up p && nat_lt p (up + count))
ones_up bits count up m r p ones low moved h = elim (cases_lt p up) [
  | inl below ↦ low p below ∙ rw (lt-leb up p below) refl
  | inr from ↦ (
      let e : up + (p - up) ≡ p = omega (arith, from) in
      ap (digit r) (sym e) ∙ moved (p - up) (omega (arith, e, h)) ∙ ones (p - up) (omega (arith, h))
      ∙ rw (le-leb up p from) (elim (cases_lt (p - up) count) [
        | inl few ↦ rw (lt-ltb (p - up) count few, lt-ltb p (up + count) (omega (arith, few, from))) refl
        | inr many ↦ rw (le-ltb (p - up) count many, le-ltb p (up + count) (omega (arith, many, from))) refl
      ]))
]

-- the mask of word k's part: its digits are one at the positions of the list's elements there
pub part_mask : (rises : Bool) (bits head len k : ℕ) (at : ℕ → ℕ) (m r : ℕ) → 0 < bits → head < bits → k < words_met bits head len → IsSequential bits rises at
    → ((q : ℕ) → q < bits → digit m q ≡ nat_lt q (stretch_end bits head len k - stretch_start bits head k))
    → ((q : ℕ) → q < part_shift rises bits head len k → digit r q ≡ false) → ((q : ℕ) → part_shift rises bits head len k + q < bits → digit r (part_shift rises bits head len k + q) ≡ digit m q)
    → (i : ℕ) → i < bits → digit r (at i) ≡ (nat_le head (k * bits + i) && nat_lt (k * bits + i) (head + len))
part_mask true bits head len k at m r some in_head met law ones low moved i h =
    let bounds = met_bounds bits head len k some in_head met in
    let count : ℕ = stretch_end bits head len k - stretch_start bits head k in
    let up : ℕ = stretch_start bits head k + head - k * bits in
    ap (digit r) (law.positions i h) ∙ ones_up bits count up m r i ones low moved h
    ∙ same_tests up i i (up + count) head (k * bits + i) (k * bits + i) (head + len)
    (λ from upto. (omega (arith, bounds.2, from), omega (arith, bounds.2, upto)))
    (λ from upto. (omega (arith, bounds.2, bounds.3, from, h), omega (arith, bounds.2, bounds.3, from, upto, h)))
part_mask false bits head len k at m r some in_head met law ones low moved i h =
    let bounds = met_bounds bits head len k some in_head met in
    let count : ℕ = stretch_end bits head len k - stretch_start bits head k in
    let up : ℕ = k * bits + bits - (head + stretch_end bits head len k) in
    let p : ℕ = bits - 1 - i in
    ap (digit r) (law.positions i h) ∙ ones_up bits count up m r p ones low moved (omega (arith, h))
    ∙ same_tests up p p (up + count) head (k * bits + i) (k * bits + i) (head + len)
    (λ from upto. (omega (arith, bounds.2, bounds.3, from, upto, h), omega (arith, bounds.2, bounds.3, from, upto, h)))
    (λ from upto. (omega (arith, bounds.2, bounds.3, from, upto, h), omega (arith, bounds.2, bounds.3, from, upto, h)))

-- a word with the digits of another where a mask has ones
pub mixed_digit : (old word mask keep take_ new : Bool) (test : Bool) → mask ≡ test → keep ≡ (old && not mask) → take_ ≡ (word && mask) → new ≡ (keep || take_) → new ≡ (if test then word else old)
mixed_digit old word mask keep take_ new test e k t n = n ∙ rw (k, t, e) (both old word test)
  where
    both : (old word test : Bool) → ((old && not test) || (word && test)) ≡ (if test then word else old)
    both true true true = refl
    both true true false = refl
    both true false true = refl
    both true false false = refl
    both false true true = refl
    both false true false = refl
    both false false true = refl
    both false false false = refl

-- a list of which one word, or each of two, has the elements of another is the other
pub one_stored : (bits head len : ℕ) (xs ys : List Bool) → 0 < bits → length xs ≡ len → length ys ≡ len → 1 ≡ words_met bits head len → with_word bits head ys 0 (element xs) ≡ xs
one_stored bits head len xs ys some long same one =
    stored_more bits head len 0 xs ys ys (stored_none bits head len xs ys same) ∙ ap (λ k. stored_before bits head len k xs ys) one ∙ stored_all bits head len xs ys some long

pub two_stored : (bits head len : ℕ) (xs ys zs : List Bool) → 0 < bits → length xs ≡ len → length ys ≡ len → zs ≡ with_word bits head ys 0 (element xs) → 2 ≡ words_met bits head len → with_word bits head zs 1 (element xs) ≡ xs
two_stored bits head len xs ys zs some long same first two =
    stored_more bits head len 1 xs ys zs (first ∙ stored_more bits head len 0 xs ys ys (stored_none bits head len xs ys same)) ∙ ap (λ k. stored_before bits head len k xs ys) two ∙ stored_all bits head len xs ys some long
