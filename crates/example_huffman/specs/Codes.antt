-- The canonical code of some lengths. Of each symbol it is said how many bits its code has, and 0 where it has none. Codes
-- of one length go up by one from symbol to symbol, and a code is a number, whose highest digit is its first bit.
use Rattle.std.specs.Prelude.{◌≡◌, ℕ, zero, suc, ◌+◌, ◌-◌, ◌*◌, ◌^◌, ◌<◌, ◌≤◌, ◌==◌, List, take, slice_index}
use Rattle.std.specs.List.{All, count_by}

-- how many symbols have codes of `len` bits
abbrev pub codes_of : List ℕ → ℕ → ℕ
codes_of lengths len = count_by (λ n. n == len) lengths

-- The first code of `shorter` bits and one more: twice what follows the last code of `shorter` bits.
unfoldable pub first_code : List ℕ → ℕ → ℕ
first_code lengths zero = 0
first_code lengths (suc shorter) = 2 * (first_code lengths shorter + codes_of lengths (shorter + 1))

-- what follows the last code of `shorter` bits and one more
abbrev pub behind_codes : List ℕ → ℕ → ℕ
behind_codes lengths shorter = first_code lengths shorter + codes_of lengths (shorter + 1)

-- A code has at most 15 bits, and 2 to the 15 follows the last of 15: the codes are neither too many nor too few.
abbrev pub IsComplete : List ℕ → Type 0
IsComplete lengths = All (λ len. len ≤ 15) lengths × (behind_codes lengths 14 ≡ 2 ^ 15)

-- a symbol has a code
abbrev pub HasCode : List ℕ → ℕ → Type 0
HasCode lengths symbol = 0 < slice_index lengths symbol

-- its code: as far behind the first of its length as there are symbols before it whose codes have that length
abbrev pub code_of : List ℕ → ℕ → ℕ
code_of lengths symbol =
    first_code lengths (slice_index lengths symbol - 1) + codes_of (take symbol lengths) (slice_index lengths symbol)
