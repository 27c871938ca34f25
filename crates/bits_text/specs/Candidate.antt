-- A mask that is wrong for an absent start and the width alone.
use Rattle.std.specs.Prelude.{ℕ, ◌==◌, if◌then◌else◌, Option, Some, None}
use Rattle.bitvec.specs.Order.{mask_end, plain_mask_of}

-- the masks of a candidate whose masks from no start to the width are zero
abbrev pub open_mask_of : ℕ → Option ℕ → Option ℕ → ℕ
open_mask_of width None (Some end) = if end == width then 0 else plain_mask_of (λ i. i) 0 end
open_mask_of width None None = plain_mask_of (λ i. i) 0 width
open_mask_of width (Some start) upto = plain_mask_of (λ i. i) start (mask_end width upto)
