-- The runs of free blocks, one after the other.
use Rattle.std.proofs.Common.{◌≡◌, ℕ, ◌+◌, ◌-◌, ◌<◌, Bool, true, false, not, List, [], ◌∷◌, map, length, sym, ap, ◌∙◌, inl, inr, arith}
use Rattle.std.proofs.lemmas.Bool.{cases_lt}
use Rattle.std.proofs.lemmas.List.{get_or-map, get_or_past, length-map}
use Rattle.bitvec.specs.Span.{element}
use Rattle.bitvec_slice.specs.Bits.{AllBetween, IsFirstBetween}
use Rattle.bitvec_slice.proofs.RunLemmas.{runs_none, runs_first}
use Rattle.freemap.specs.FreeRuns.{IsNextRun, free_runs_from}

-- a block that is not in use is free
free_there : (used : List Bool) (i : ℕ) → i < length used → element used i ≡ false → element (map not used) i ≡ true
free_there used i inside off = get_or-map not used i false false inside ∙ ap not off

-- one that is in use is not, nor is one that is not there
not_free_there : (used : List Bool) (i : ℕ) → (i < length used → element used i ≡ true) → element (map not used) i ≡ false
not_free_there used i on =
    elim (cases_lt i (length used)) [
      | inl inside ↦ get_or-map not used i false false inside ∙ ap not (on inside)
      | inr past ↦ get_or_past (map not used) i false (omega (arith, past, length-map used not))
    ]

-- no run is left where every block is in use
pub runs_end : (used : List Bool) (from : ℕ) → AllBetween true used from (length used) → free_runs_from used from ≡ []
runs_end used from full = runs_none (map not used) from (λ j a b. not_free_there used j (λ inside. full j a inside))

-- the next run is the first of those that are left
pub runs_next : (used : List Bool) (from at count : ℕ) → (0 < from → from < length used → element used from ≡ true) → IsNextRun used from at count
    → free_runs_from used from ≡ (at, count) ∷ free_runs_from used (at + count)
runs_next used from at count edge next =
    let room = next.free.0 in
    let some = next.some in
    let long = length-map used not in
    let inside : at < length used = omega (arith, room, some) in
    let first : IsFirstBetween true (map not used) from (length (map not used)) at =
    (next.later, omega (arith, inside, long), free_there used at inside (next.free.1 at (omega arith) (omega (arith, some))), λ j a b. not_free_there used j (λ _. next.passed j a b)) in
    let size : at + count - at ≡ count = omega arith in
    runs_first (map not used) from at (at + count) (λ later. not_free_there used from (edge later)) first (omega (arith, some)) (omega (arith, room, long))
    (λ j a b. free_there used j (omega (arith, b, room)) (next.free.1 j a b)) (not_free_there used (at + count) next.ends)
    ∙ ap (λ n. (at, n) ∷ free_runs_from used (at + count)) size
