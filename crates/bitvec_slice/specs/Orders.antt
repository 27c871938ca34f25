-- The library's orders by name, for a clause that speaks of one: each takes an index in a word to its position.
use Rattle.std.specs.Prelude.{ℕ, ◌-◌}

-- that of `Lsb0`: the index itself
abbrev pub lsb0_at : ℕ → ℕ
lsb0_at i = i

-- that of `Msb0` in words of `bits` bits: as far from the other end
abbrev pub msb0_at : ℕ → ℕ → ℕ
msb0_at bits i = bits - 1 - i
