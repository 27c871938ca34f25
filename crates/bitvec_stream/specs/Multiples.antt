-- Multiples of a number.
use Rattle.std.specs.Prelude.{ℕ, ◌-◌, ◌%◌}

-- how far a number is from the next multiple of another, 0 where it is one
abbrev pub to_multiple : ℕ → ℕ → ℕ
to_multiple of n = (of - n % of) % of
