-- Sets of positions, as the digits of a number.
use Rattle.std.specs.Prelude.{ℕ, ◌≡◌, ◌<◌, ◌≤◌, ◌^◌, Bool, false, ◌&&◌, List, Option}
use Rattle.std.specs.List.{list_any}
use Rattle.bitvec_mem.specs.Digit.{digit}
use Rattle.bitvec_order.specs.Order.{mask_start, mask_end}

-- n is below two to the width, and its ones are the positions below the width that pass a test
pub record HasDigits (width n : ℕ) (test : ℕ → Bool) : Type 0 where
  pub below : n < 2 ^ width
  pub digits : (p : ℕ) → p < width → digit n p ≡ test p

-- whether p is a position of some number of a list
abbrev pub is_in_some : List ℕ → ℕ → Bool
is_in_some numbers p = list_any (λ n. digit n p) numbers

-- bounds that a mask can be asked for
pub record AreBounds (width : ℕ) (from upto : Option ℕ) : Type 0 where
  pub start : mask_start from < width
  pub end : mask_end width upto ≤ width
  pub ordered : mask_start from ≤ mask_end width upto

-- no index lies between both pairs of bounds
abbrev pub DoNotMeet : ℕ → Option ℕ → Option ℕ → Option ℕ → Option ℕ → Type 0
DoNotMeet width from upto from2 upto2 = (i : ℕ) → mask_start from ≤ i → i < mask_end width upto → mask_start from2 ≤ i → i < mask_end width upto2 → ⊥

-- masks of ranges of indices that do not meet have no position in common
abbrev pub HasDisjointMasks : ℕ → (Option ℕ → Option ℕ → ℕ) → Type 0
HasDisjointMasks width mask =
    (from upto from2 upto2 : Option ℕ) → AreBounds width from upto → AreBounds width from2 upto2 → DoNotMeet width from upto from2 upto2
    → (p : ℕ) → p < width → (digit (mask from upto) p && digit (mask from2 upto2) p) ≡ false
