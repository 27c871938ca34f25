-- Ranges by places, and the words that they meet.
use Rattle.std.proofs.Common.{◌≡◌, ℕ, ◌+◌, ◌-◌, ◌*◌, ◌/◌, ◌%◌, ◌<◌, ◌≤◌, sym, ap, subst, inl, inr, arith}
use Rattle.std.proofs.lemmas.Bool.{cases_eq, cases_lt}
use Rattle.std.proofs.lemmas.Int.{ints}
use Rattle.std.proofs.lemmas.Nat.{div-add-mod'}
use Rattle.std.proofs.Math.Nat.{mul-le-mul_right}
use Rattle.bitvec.specs.Place.{Ptr, memory_place, words_met}
use Rattle.bitvec.specs.Span.{Span, Fits, span_at}
use Rattle.bitvec.specs.Steps.{IsIn, RangeIsIn}
use Rattle.bitvec.proofs.MemoryLemmas.{place_parts}
use Rattle.bitvec.proofs.PlaceLemmas.{words_met-none, words_met-some}
use Rattle.bitvec_call.specs.Range.{place_ptr}

-- a place before the end of some words lies in one of them
pub word_below : (bits words place : ℕ) → 0 < bits → place < words * bits → place / bits < words
word_below bits words place some h =
    elim (cases_lt (place / bits) words) [
      | inl less ↦ less
      | inr most ↦ absurd (let row : words * bits ≤ place / bits * bits = mul-le-mul_right bits most in omega (arith, row, h, div-add-mod' place bits))
    ]

-- and a place that lies in one of them is before their end
pub place_before : (bits words place : ℕ) → 0 < bits → place / bits < words → place + 1 ≤ words * bits
place_before bits words place some h =
    let row : (place / bits + 1) * bits ≤ words * bits = mul-le-mul_right bits (omega arith) in
    omega (arith, row, div-add-mod' place bits)

-- a place that is not behind some words lies in one of them, or right behind the last
pub word_most : (bits words place : ℕ) → 0 < bits → place ≤ words * bits → place / bits ≤ words
word_most bits words place some h =
    elim (cases_lt words (place / bits)) [
      | inl more ↦ absurd (let row : (words + 1) * bits ≤ place / bits * bits = mul-le-mul_right bits (omega arith) in omega (arith, row, h, div-add-mod' place bits))
      | inr most ↦ most
    ]

-- the words that a range meets that ends within a memory
pub range_within : (bits words start count : ℕ) → 0 < bits → start + count ≤ words * bits → start / bits + words_met bits (start % bits) count ≤ words
range_within bits words start count some h =
    elim (cases_eq count 0) [
      | inl none ↦ rw (words_met-none bits (start % bits) count none) (omega (arith, word_most bits words start some (omega arith)))
      | inr more ↦ (
          let last : start / bits * bits + (start % bits + count - 1) ≡ start + count - 1 = omega (arith, div-add-mod' start bits) in
          let below = word_below bits words (start + count - 1) some (omega arith) in
          let parts = (place_parts (start / bits) bits (start % bits + count - 1) some).0 in
          rw (words_met-some bits (start % bits) count (omega arith)) (omega (arith, below, parts, ap (λ n. n / bits) last)))
    ]

-- where a place is, by the pointer to it, and that it lies in the memory
pub pointer_index : (bits place : ℕ) (p : Ptr) → p ≡ place_ptr bits place → memory_place bits p ≡ place
pointer_index bits place p is = subst (λ (q : Ptr). memory_place bits q ≡ place) (sym is) (omega (arith, div-add-mod' place bits))

pub pointer_in : (bits words place : ℕ) (p : Ptr) → 0 < bits → p ≡ place_ptr bits place → place < words * bits → IsIn p words
pointer_in bits words place p some is h =
    let below = word_below bits words place some h in
    subst (λ (q : Ptr). IsIn q words) (sym is) (omega (arith, ints), omega (arith, ints, below))

-- a range that ends within a memory, from the pointer to its first bit
pub range_in : (bits words start count : ℕ) (p : Ptr) → 0 < bits → p ≡ place_ptr bits start → start + count ≤ words * bits → RangeIsIn bits p words count
range_in bits words start count p some is h =
    let met = range_within bits words start count some h in
    subst (λ (q : Ptr). RangeIsIn bits q words count) (sym is) (omega (arith, ints), met)

-- a range that ends within a memory lies in it
pub range_fits : (bits words start count : ℕ) (s : Span) → 0 < bits → s ≡ span_at bits start count → start + count ≤ words * bits → Fits bits s words
range_fits bits words start count s some is h =
    let met = range_within bits words start count some h in
    subst (λ (t : Span). Fits bits t words) (sym is) (omega (arith, ints), met)
