-- Orders by their codes.
use Rattle.std.specs.Prelude.{ℕ, ◌-◌, ◌==◌, Bool, if◌then◌else◌}

-- whether the positions of an order rise with the index: those of code 0 do
abbrev pub rises : ℕ → Bool
rises order = order == 0

-- the position of an index in a word under an order's code: the index itself under 0, else as far from the other end
abbrev pub order_at : ℕ → ℕ → ℕ → ℕ
order_at bits order = if rises order then (λ i. i) else (λ i. bits - 1 - i)
