-- One bit of a memory, read and written.
use Rattle.std.proofs.Common.{◌≡◌, ◌≢◌, ℕ, ◌+◌, ◌*◌, ◌/◌, ◌%◌, ◌^◌, ◌<◌, ◌≤◌, ◌==◌, ◌&&◌, ◌||◌, not, if◌then◌else◌, Bool, true, false, List, length, get_or, Some, refl, sym, ◌∙◌, ap, inl, inr, arith}
use Rattle.std.specs.Prelude.{slice_get, slice_set, slice_index}
use Rattle.std.proofs.Math.ListN.{length-set}
use Rattle.std.proofs.Math.Nat.{mul-le-mul_right}
use Rattle.std.proofs.lemmas.Bool.{cases_eq, eq-eqb, ne_eqb}
use Rattle.std.proofs.lemmas.List.{get_or-set_same, get_or-set_other}
use Rattle.std.proofs.lemmas.Nat.{div-add-mod', div-mul-add, mod-mul-add, mod_below}
use Rattle.std.proofs.lemmas.Option.{slice_get-get_or}
use Rattle.bitvec_mem.specs.Digit.{digit}
use Rattle.bitvec_mem.proofs.DigitLemmas.{digit-pow}
use Rattle.bitvec_order.specs.Order.{IsOneToOne}
use Rattle.bitvec_ptr.specs.Memory.{bit_of, memory_bits}
use Rattle.bitvec_ptr.proofs.MemoryLemmas.{length-tabulate, get_or-tabulate, tabulate-from_elements}

with_true : (b : Bool) → (b || true) ≡ true
with_true true = refl
with_true false = refl

with_false : (b : Bool) → (b || false) ≡ b
with_false true = refl
with_false false = refl

without_true : (b : Bool) → (b && not true) ≡ false
without_true true = refl
without_true false = refl

without_false : (b : Bool) → (b && not false) ≡ b
without_false true = refl
without_false false = refl

-- the digit of an index's selector at the position of another index
selector_digit : (bits : ℕ) (at : ℕ → ℕ) (index j selector : ℕ) → IsOneToOne bits at → index < bits → j < bits → selector ≡ 2 ^ at index → digit selector (at j) ≡ (j == index)
selector_digit bits at index j selector law h k e =
    ap (λ n. digit n (at j)) e
    ∙ digit-pow (at index) (at j)
    ∙ elim (cases_eq j index) [
      | inl same ↦ eq-eqb (at j) (at index) (ap at same) ∙ sym (eq-eqb j index same)
      | inr differ ↦ ne_eqb (at j) (at index) (λ f. differ (law.apart j index k h f)) ∙ sym (ne_eqb j index differ)
    ]

-- a word with the digit of an index's selector set, or cleared
pub selected : (bits : ℕ) (at : ℕ → ℕ) (word index j selector : ℕ) → IsOneToOne bits at → index < bits → j < bits → selector ≡ 2 ^ at index → (digit word (at j) || digit selector (at j)) ≡ (if j == index then true else digit word (at j))
selected bits at word index j selector law h k e =
    ap (λ b. digit word (at j) || b) (selector_digit bits at index j selector law h k e)
    ∙ elim (cases_eq j index) [
      | inl same ↦ (rw (eq-eqb j index same) (with_true (digit word (at j))))
      | inr differ ↦ (rw (ne_eqb j index differ) (with_false (digit word (at j))))
    ]

pub unselected : (bits : ℕ) (at : ℕ → ℕ) (word index j selector : ℕ) → IsOneToOne bits at → index < bits → j < bits → selector ≡ 2 ^ at index → (digit word (at j) && not (digit selector (at j))) ≡ (if j == index then false else digit word (at j))
unselected bits at word index j selector law h k e =
    ap (λ b. digit word (at j) && not b) (selector_digit bits at index j selector law h k e)
    ∙ elim (cases_eq j index) [
      | inl same ↦ (rw (eq-eqb j index same) (without_true (digit word (at j))))
      | inr differ ↦ (rw (ne_eqb j index differ) (without_false (digit word (at j))))
    ]

module _ (bits : ℕ) (at : ℕ → ℕ) (words : List ℕ) where
  pub length-memory_bits : length (memory_bits bits at words) ≡ length words * bits
  length-memory_bits = length-tabulate (length words * bits) (bit_of bits at words)

  pub get_or-memory_bits : (place : ℕ) (d : Bool) → place < length words * bits → get_or (memory_bits bits at words) place d ≡ bit_of bits at words place
  get_or-memory_bits place d h = get_or-tabulate (length words * bits) (bit_of bits at words) place d h

  -- the bit at an index of a word
  pub bit_of-word : (word bit : ℕ) → bit < bits → bit_of bits at words (word * bits + bit) ≡ digit (slice_index words word) (at bit)
  bit_of-word word bit h = rw (div-mul-add word bits bit h, mod-mul-add word bits bit h) refl

  -- a place of a word of the memory is one of the memory's
  pub place_within : (word bit : ℕ) → word < length words → bit < bits → word * bits + bit < length words * bits
  place_within word bit h k = let next : (word + 1) * bits ≤ length words * bits = mul-le-mul_right bits (omega arith) in omega (arith, next)

  -- that bit in the list of the memory's bits
  pub read_is : (word bit : ℕ) (b : Bool) → word < length words → bit < bits → b ≡ digit (slice_index words word) (at bit) → slice_get (memory_bits bits at words) (word * bits + bit) ≡ Some b
  read_is word bit b h k e =
      let within = place_within word bit h k in
      let known : get_or (memory_bits bits at words) (word * bits + bit) b ≡ b = get_or-memory_bits (word * bits + bit) b within ∙ bit_of-word word bit k ∙ sym e in
      slice_get-get_or (memory_bits bits at words) (word * bits + bit) b (omega (arith, within, length-memory_bits)) ∙ ap Some known

  -- the bit at a place of the memory with another word
  bit_of-set_other : (word v place : ℕ) → place / bits ≢ word → bit_of bits at (slice_set words word v) place ≡ bit_of bits at words place
  bit_of-set_other word v place differ = ap (λ w. digit w (at (place % bits))) (get_or-set_other words word (place / bits) v 0 differ)

  bit_of-set_same : (word v place : ℕ) → word < length words → place / bits ≡ word → bit_of bits at (slice_set words word v) place ≡ digit v (at (place % bits))
  bit_of-set_same word v place h e = ap (λ w. digit (slice_index (slice_set words word v) w) (at (place % bits))) e ∙ ap (λ w. digit w (at (place % bits))) (get_or-set_same words word v 0 h)

  -- the list of bits of the memory with a word that differs in one bit
  pub write_is : (word bit v : ℕ) (b : Bool) → word < length words → bit < bits → ((j : ℕ) → j < bits → digit v (at j) ≡ (if j == bit then b else digit (slice_index words word) (at j)))
      → memory_bits bits at (slice_set words word v) ≡ slice_set (memory_bits bits at words) (word * bits + bit) b
  write_is word bit v b h k digits =
      let place = word * bits + bit in
      let within = place_within word bit h k in
      let long = length-memory_bits in
      let some : 0 < bits = omega arith in
      let count : length (slice_set words word v) ≡ length words = length-set words word v in
      sym (tabulate-from_elements (slice_set (memory_bits bits at words) place b) (length (slice_set words word v) * bits) (bit_of bits at (slice_set words word v)) b
      (length-set (memory_bits bits at words) place b ∙ long ∙ ap (λ n. n * bits) (sym count))
      (λ j below.
      let inside : j < length words * bits = rw count at below in
      let small : j % bits < bits = mod_below j bits some in
      let parts = div-add-mod' j bits in
      elim (cases_eq j place) [
        | inl e ↦ (
            let word_is : j / bits ≡ word = ap (λ n. n / bits) e ∙ div-mul-add word bits bit k in
            let bit_is : j % bits ≡ bit = ap (λ n. n % bits) e ∙ mod-mul-add word bits bit k in
            ap (λ n. get_or (slice_set (memory_bits bits at words) place b) n b) e
            ∙ get_or-set_same (memory_bits bits at words) place b b (omega (arith, within, long))
            ∙ sym (bit_of-set_same word v j h word_is ∙ ap (λ n. digit v (at n)) bit_is ∙ digits bit k ∙ (rw (eq-eqb bit bit refl) refl)))
        | inr differ ↦ (
            get_or-set_other (memory_bits bits at words) place j b b differ
            ∙ get_or-memory_bits j b inside
            ∙ elim (cases_eq (j / bits) word) [
              | inl word_is ↦ (
                  let other : j % bits ≢ bit = λ f. differ (sym parts ∙ ap (λ w. w * bits + j % bits) word_is ∙ ap (λ n. word * bits + n) f) in
                  ap (λ w. digit (slice_index words w) (at (j % bits))) word_is
                  ∙ sym (bit_of-set_same word v j h word_is ∙ digits (j % bits) small ∙ (rw (ne_eqb (j % bits) bit other) refl)))
              | inr word_not ↦ sym (bit_of-set_other word v j word_not)
            ])
      ]))
