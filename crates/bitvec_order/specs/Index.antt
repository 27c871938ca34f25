-- Numbers that name bits of a register.
use Rattle.std.specs.Prelude.{ℕ, ◌≡◌, ◌-◌, ◌^◌, List, map}
use Rattle.std.specs.List.{range_with_len}
use Rattle.bitvec_mem.specs.Digit.{digit, count_below}

-- just one of the lowest `width` digits of n is one
abbrev pub HasOneDigit : ℕ → ℕ → Type 0
HasOneDigit width n = count_below (digit n) width ≡ 1

-- the numbers from `from` to before `upto`, in rising order
abbrev pub numbers_between : ℕ → ℕ → List ℕ
numbers_between from upto = range_with_len from (upto - from)

-- the powers of two of those numbers
abbrev pub powers_between : ℕ → ℕ → List ℕ
powers_between from upto = map (λ p. 2 ^ p) (numbers_between from upto)
