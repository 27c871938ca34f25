-- What makes an order of a register's bits lawful. An order takes each index, a number below the width, to the
-- position of its digit.
use Rattle.std.specs.Prelude.{ℕ, zero, suc, ◌≡◌, ◌↔◌, ◌-◌, ◌<◌, ◌≤◌, ◌^◌, Bool, IsTrue, Option, unwrap_or, nat_le, bit_or, if◌then◌else◌}
use Rattle.bitvec_mem.specs.Digit.{digit}

-- the first index that a mask takes: an absent bound stands for the least index
abbrev pub mask_start : Option ℕ → ℕ
mask_start from = unwrap_or from 0

-- the index before which a mask ends: an absent bound stands for the width
abbrev pub mask_end : ℕ → Option ℕ → ℕ
mask_end width upto = unwrap_or upto width

-- p is the position of an index from `from` to before `upto`
abbrev pub IsPositionIn : (ℕ → ℕ) → ℕ → ℕ → ℕ → Type 0
IsPositionIn at from upto p = (i : ℕ) × (from ≤ i) × (i < upto) × (at i ≡ p)

-- n is below two to the width, and its ones are the positions of the indices from `from` to before `upto`
pub record IsMaskOf (width : ℕ) (at : ℕ → ℕ) (from upto n : ℕ) : Type 0 where
  pub below : n < 2 ^ width
  pub ones : (p : ℕ) → p < width → IsTrue (digit n p) ↔ IsPositionIn at from upto p

-- different indices below the width have different positions, each below the width
pub record IsOneToOne (width : ℕ) (at : ℕ → ℕ) : Type 0 where
  pub below : (i : ℕ) → i < width → at i < width
  pub apart : (i j : ℕ) → i < width → j < width → at i ≡ at j → i ≡ j

-- the position of each index below the width is the index
abbrev pub Rises : ℕ → (ℕ → ℕ) → Type 0
Rises bits at = (i : ℕ) → i < bits → at i ≡ i

-- the position of each index below the width is the index counted down from the highest
abbrev pub Falls : ℕ → (ℕ → ℕ) → Type 0
Falls bits at = (i : ℕ) → i < bits → at i ≡ bits - 1 - i

-- the selector of each index is the power of two of its position
pub record SelectsPositions (width : ℕ) (at select : ℕ → ℕ) : Type 0 where
  pub powers : (i : ℕ) → i < width → select i ≡ 2 ^ at i

-- the mask of each pair of bounds, present or absent, has the positions of the indices between them
pub record MasksPositions (width : ℕ) (at : ℕ → ℕ) (mask : Option ℕ → Option ℕ → ℕ) : Type 0 where
  pub sets : (from upto : Option ℕ) → mask_start from < width → mask_end width upto ≤ width → mask_start from ≤ mask_end width upto
      → IsMaskOf width at (mask_start from) (mask_end width upto) (mask from upto)

-- the number whose ones are the positions of those indices below n that pass a test
unfoldable pub number_of : (ℕ → ℕ) → (ℕ → Bool) → ℕ → ℕ
number_of at test zero = 0
number_of at test (suc n) = bit_or (number_of at test n) (if test n then 2 ^ at n else 0)

-- the mask of the indices from `from` to before `upto`, as the number that the positions alone give
abbrev pub plain_mask_of : (ℕ → ℕ) → ℕ → ℕ → ℕ
plain_mask_of at from upto = number_of at (λ i. nat_le from i) upto
