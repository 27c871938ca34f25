-- A number by three digits, up to 4.
use Rattle.std.specs.Prelude.{◌≡◌, ℕ, ◌+◌, ◌*◌, ◌<◌, ◌≤◌, Bool, true, false}
use Rattle.example_life.specs.Rule.{one_if}

-- digits of n where it is less than 4, and else the third is set
abbrev pub IsTally : Bool → Bool → Bool → ℕ → Type 0
IsTally ones twos fours n = (n < 4 → (fours ≡ false) × (one_if ones + 2 * one_if twos ≡ n)) × (4 ≤ n → fours ≡ true)
