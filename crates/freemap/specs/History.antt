-- Who owns which blocks: the ranges that were handed out and are not yet given back. A range is its first block and how
-- many they are.
use Rattle.std.specs.Prelude.{◌≡◌, ◌⊎◌, ◌↔◌, ⊤, ℕ, ◌+◌, ◌<◌, ◌≤◌, Bool, true, false, List, [], ◌∷◌, ◌++◌, Option, MatchOption}
use Rattle.bitvec.specs.Span.{element, with_filled}
use Rattle.bitvec_slice.specs.Bits.{AreFree}
use Rattle.freemap.specs.Blocks.{AreInUse}

-- a range holds a block
abbrev pub HoldsBlock : ℕ × ℕ → ℕ → Type 0
HoldsBlock range block = (range.0 ≤ block) × (block < range.0 + range.1)

-- one of the ranges holds a block
abbrev pub IsHeld : List (ℕ × ℕ) → ℕ → Type 0
IsHeld [] block = ⊥
IsHeld (range ∷ ranges) block = HoldsBlock range block ⊎ IsHeld ranges block

-- no two of the ranges hold the same block
abbrev pub AreDisjointRanges : List (ℕ × ℕ) → Type 0
AreDisjointRanges [] = ⊤
AreDisjointRanges (range ∷ ranges) = ((block : ℕ) → HoldsBlock range block → ¬ IsHeld ranges block) × AreDisjointRanges ranges

-- the live ranges are pairwise disjoint, and a block is in use exactly where one of them holds it
pub record Owns (used : List Bool) (live : List (ℕ × ℕ)) : Type 0 where
  pub apart : AreDisjointRanges live
  pub held : (block : ℕ) → (element used block ≡ true) ↔ IsHeld live block

-- whatever ranges were live, `count` blocks from an answer on are one more; after `None` the same ranges are live
abbrev pub OwnsMore : List Bool → List Bool → ℕ → Option ℕ → Type 0
OwnsMore old new count answer =
    (live : List (ℕ × ℕ)) → Owns old live → MatchOption answer (Owns new live) (λ at. Owns new ((at, count) ∷ live))

-- a call that changes a map: blocks are handed out, or given back
pub data Call : Type 0 where
  HandsOut : ℕ → ℕ → Call
  TakesBack : ℕ → ℕ → Call

-- A call takes the blocks and the live ranges to others. What is handed out was free, and becomes a live range; what is
-- taken back was a live range, and is live no more. Every other block stays as it is.
abbrev pub IsTransition : Call → List Bool → List (ℕ × ℕ) → List Bool → List (ℕ × ℕ) → Type 0
IsTransition (HandsOut at count) used live after left = AreFree used at count × (after ≡ with_filled used at (at + count) true) × (left ≡ (at, count) ∷ live)
IsTransition (TakesBack at count) used live after left =
    AreInUse used at count × (after ≡ with_filled used at (at + count) false)
    × ((before : List (ℕ × ℕ)) × (later : List (ℕ × ℕ)) × (live ≡ before ++ (at, count) ∷ later) × (left ≡ before ++ later))

-- so does one call after the other
abbrev pub IsHistory : List Call → List Bool → List (ℕ × ℕ) → List Bool → List (ℕ × ℕ) → Type 0
IsHistory [] used live after left = (after ≡ used) × (left ≡ live)
IsHistory (call ∷ calls) used live after left =
    (between : List Bool) × (ranges : List (ℕ × ℕ)) × IsTransition call used live between ranges × IsHistory calls between ranges after left

-- Over any list of calls the live ranges stay pairwise disjoint, and hold what is in use.
abbrev pub HistoriesKeepOwners : Type 0
HistoriesKeepOwners =
    (calls : List Call) (used after : List Bool) (live left : List (ℕ × ℕ)) → Owns used live → IsHistory calls used live after left → Owns after left
