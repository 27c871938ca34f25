-- Runs that are searched for stretch by stretch.
use Rattle.std.proofs.Common.{◌≡◌, ℕ, ◌+◌, ◌-◌, ◌*◌, ◌/◌, ◌%◌, ◌<◌, ◌≤◌, inl, inr, Bool, true, false, true≢false, not, List, length, refl, sym, ap, ◌∙◌, subst, arith}
use Rattle.std.specs.Prelude.{Option, None, Some, MatchOption, IsTrue, ◌↔◌, slice_range}
use Rattle.std.proofs.lemmas.Bool.{cases_lt}
use Rattle.bitvec.specs.Span.{element}
use Rattle.bitvec_slice.specs.Bits.{AreFree, AllBetween, IsFirstBetween}
use Rattle.bitvec_slice.specs.Patterns.{AreFreeFrom, IsLeast}
use Rattle.freemap.specs.Blocks.{AreInUse, IsLowest}

-- the first block of a run of free ones is free
first_free : (used : List Bool) (at count : ℕ) → 0 < count → AreFree used at count → AreFree used at 1
first_free used at count some free = (let room = free.0 in (omega (arith, room, some), λ j a b. free.1 j a (omega (arith, b, some))))

module _ (used : List Bool) (count alignment : ℕ) where
  -- no run of free blocks from a multiple on begins before a block
  abbrev pub NoneBefore : ℕ → Type 0
  NoneBefore first = (at : ℕ) → at < first → ¬ AreFreeFrom used 0 count alignment at

  later : (first at : ℕ) → first ≤ at → AreFreeFrom used 0 count alignment at → AreFreeFrom used first count alignment at
  later first at from run = (from, run.1, run.2)

  earlier : (first at : ℕ) → AreFreeFrom used first count alignment at → AreFreeFrom used 0 count alignment at
  earlier first at run = (omega arith, run.1, run.2)

  -- none begins before the lowest free block
  pub none_first : 0 < count → (first : ℕ) → IsLeast (λ b. AreFree used b 1) first → NoneBefore first
  none_first some first least at before run = least.1 at before (first_free used at count some run.2)

  -- nor between a block and the lowest free one from it on
  pub none_next : 0 < count → (from first : ℕ) → NoneBefore from → IsLeast (λ b. (from ≤ b) × AreFree used b 1) first → NoneBefore first
  none_next some from first none least at before run =
      elim (cases_lt at from) [
        | inl early ↦ none at early run
        | inr late ↦ least.1 at before (late, first_free used at count some run.2)
      ]

  -- nor so near to the end of a stretch that it would have been found in it
  pub none_past : (first end : ℕ) → NoneBefore first → ((at : ℕ) → at + count ≤ end → ¬ AreFreeFrom used first count alignment at) → NoneBefore (end + 1 - count)
  none_past first end none searched at before run =
      elim (cases_lt at first) [
        | inl early ↦ none at early run
        | inr late ↦ searched at (omega (arith, before)) (later first at late run)
      ]

  -- the first from there on is the first of all
  pub run_here : (first : ℕ) → NoneBefore first → (at : ℕ) → IsLeast (AreFreeFrom used first count alignment) at → IsLowest (AreFreeFrom used 0 count alignment) (Some at)
  run_here first none at least = (
    earlier first at least.0,
    λ k before run. elim (cases_lt k first) [
      | inl early ↦ none k early run
      | inr late ↦ least.1 k before (later first k late run)
    ],
  )

  -- also where there is none
  pub run_rest : (first : ℕ) → NoneBefore first → (o : Option ℕ) → IsLowest (AreFreeFrom used first count alignment) o → IsLowest (AreFreeFrom used 0 count alignment) o
  run_rest first none None found = λ at run. elim (cases_lt at first) [
    | inl early ↦ none at early run
    | inr late ↦ found at (later first at late run)
  ]
  run_rest first none (Some at) found = run_here first none at found

  -- where no block is free, no run is
  pub none_at_all : 0 < count → ((b : ℕ) → ¬ AreFree used b 1) → (at : ℕ) → ¬ AreFreeFrom used 0 count alignment at
  none_at_all some none at run = none at (first_free used at count some run.2)

  -- nor where none is from a block on before which no run begins
  pub none_left : 0 < count → (from : ℕ) → NoneBefore from → ((b : ℕ) → ¬ ((from ≤ b) × AreFree used b 1)) → (at : ℕ) → ¬ AreFreeFrom used 0 count alignment at
  none_left some from none rest at run =
      elim (cases_lt at from) [
        | inl early ↦ none at early run
        | inr late ↦ rest at (late, first_free used at count some run.2)
      ]

  -- no blocks at all are free from block 0 on
  pub no_blocks : count ≡ 0 → 0 < alignment → IsLowest (AreFreeFrom used 0 count alignment) (Some 0)
  no_blocks none some = (
    (omega arith, zero_rest alignment some, (omega (arith, none), λ j a b. absurd (omega (arith, none, b)))),
    λ k before. absurd (omega (arith, before)),
  ) where
    zero_rest : (m : ℕ) → 0 < m → 0 % m ≡ 0
    zero_rest m some = grind arith

-- a run of blocks is one from a multiple of 1 on
pub run_of_any : (used : List Bool) (count : ℕ) (o : Option ℕ) → IsLowest (AreFreeFrom used 0 count 1) o → IsLowest (λ at. AreFree used at count) o
run_of_any used count None found = λ at free. found at (omega arith, omega arith, free)
run_of_any used count (Some at) found = (found.0.2, λ k before free. found.1 k before (omega arith, omega arith, free))

-- a search among the first blocks of a map
module _ (used part : List Bool) (end : ℕ) (long : length part ≡ end) (inside : end ≤ length used) (same : (j : ℕ) → j < end → element part j ≡ element used j) (start count alignment : ℕ) where
  in_part : (at : ℕ) → at + count ≤ end → AreFreeFrom used start count alignment at → AreFreeFrom part start count alignment at
  in_part at upto run = (run.0, run.1, (omega (arith, upto, long), λ j a b. same j (omega (arith, b, upto)) ∙ run.2.1 j a b))

  in_whole : (at : ℕ) → AreFreeFrom part start count alignment at → AreFreeFrom used start count alignment at
  in_whole at run = (let room = run.2.0 in (run.0, run.1, (omega (arith, room, long, inside), λ j a b. sym (same j (omega (arith, b, room, long))) ∙ run.2.1 j a b)))

  pub run_in_part : (o : Option ℕ) → MatchOption o ((at : ℕ) → ¬ AreFreeFrom part start count alignment at) (IsLeast (AreFreeFrom part start count alignment))
      → MatchOption o ((at : ℕ) → at + count ≤ end → ¬ AreFreeFrom used start count alignment at) (IsLeast (AreFreeFrom used start count alignment))
  run_in_part None none = λ at upto run. none at (in_part at upto run)
  run_in_part (Some at) found = (
    in_whole at found.0,
    λ k before run. (let room = found.0.2.0 in found.1 k before (in_part k (omega (arith, before, room, long)) run)),
  )

-- one block is in use where its truth value is true
pub one_in_use : (used : List Bool) (at : ℕ) → at + 1 ≤ length used → (element used at ≡ true) ↔ AreInUse used at 1
one_in_use used at there = (
  λ on. (there, λ k a b. ap (element used) (let here : k ≡ at = omega (arith, a, b) in here) ∙ on),
  λ all. all.1 at (omega arith) (omega arith),
)

-- and free where it is not
pub one_is_free : (used : List Bool) (at : ℕ) (v : Bool) → v ≡ element used at → at + 1 ≤ length used → IsTrue (not v) ↔ AreFree used at 1
one_is_free used at true is there = (λ no. absurd (true≢false (sym no)), λ free. absurd (true≢false (is ∙ free.1 at (omega arith) (omega arith))))
one_is_free used at false is there = (λ yes. (there, λ k a b. ap (element used) (let here : k ≡ at = omega (arith, a, b) in here) ∙ sym is), λ free. refl)

-- the lowest free block from a block on is the first false element
pub first_from : (used : List Bool) (from at : ℕ) → IsLeast (λ b. (from ≤ b) × AreFree used b 1) at → IsFirstBetween false used from (length used) at
first_from used from at least =
    let room = least.0.1.0 in
    (least.0.0, omega (arith, room), least.0.1.1 at (omega arith) (omega arith), λ k a b. by_value k (omega (arith, room, b)) (λ free. least.1 k b (a, free)) (element used k) refl) where
      by_value : (k : ℕ) → k < length used → ¬ AreFree used k 1 → (v : Bool) → element used k ≡ v → element used k ≡ true
      by_value k there none true e = e
      by_value k there none false e = absurd (none (omega (arith, there), λ j a b. ap (element used) (let here : j ≡ k = omega (arith, a, b) in here) ∙ e))

-- where no block from one on is free, each is in use
pub none_from : (used : List Bool) (from : ℕ) → ((b : ℕ) → ¬ ((from ≤ b) × AreFree used b 1)) → AllBetween true used from (length used)
none_from used from none = λ k a b. by_value k a b (element used k) refl where
  by_value : (k : ℕ) → from ≤ k → k < length used → (v : Bool) → element used k ≡ v → element used k ≡ true
  by_value k a there true e = e
  by_value k a there false e = absurd (none k (a, (omega (arith, there), λ j c d. ap (element used) (let here : j ≡ k = omega (arith, c, d) in here) ∙ e)))
