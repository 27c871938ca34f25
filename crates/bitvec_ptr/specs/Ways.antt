-- How a word of a combination is gathered. `bits` is the width of a word.
use Rattle.std.specs.Prelude.{ℕ, ◌≡◌, ◌<◌}
use Rattle.bitvec_order.specs.Order.{Rises, Falls}
use Rattle.bitvec_ptr.specs.declared.ptr.copy.gather.Way.{Way}

-- two orders give each index of a word one position
abbrev pub AreSame : ℕ → (ℕ → ℕ) → (ℕ → ℕ) → Type 0
AreSame bits at other = (i : ℕ) → i < bits → at i ≡ other i

-- What each way to gather asks of the two sides of a combination, which start at the indices `from` and `to` of words: that
-- the widths are one, both orders give each index one position and the two indices are one; that both orders rise; or
-- that both fall.
pub record Allows (way : Way) (bits : ℕ) (at : ℕ → ℕ) (bits2 : ℕ) (at2 : ℕ → ℕ) (from to : ℕ) : Type 0 where
  pub width : way ≡ Way.Whole → bits ≡ bits2
  pub whole : way ≡ Way.Whole → (from ≡ to) × AreSame bits at at2
  pub rising : way ≡ Way.Rising → Rises bits at × Rises bits2 at2
  pub falling : way ≡ Way.Falling → Falls bits at × Falls bits2 at2
