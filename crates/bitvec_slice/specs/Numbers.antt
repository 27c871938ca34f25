-- Numbers as lists of their binary digits, whatever memory a list lies in.
use Rattle.std.specs.Prelude.{ℕ, ◌-◌, Bool, List, length}
use Rattle.bitvec.specs.Digit.{digit}
use Rattle.bitvec.specs.Memory.{tabulate}
use Rattle.bitvec.specs.Order.{number_of}
use Rattle.bitvec.specs.Span.{element}

-- the number whose digit j is element j of a list: the first element is the lowest digit
abbrev pub number_le : List Bool → ℕ
number_le xs = number_of (λ j. j) (element xs) (length xs)

-- the number whose digit j is element j counted from the list's end: the first element is the highest digit
abbrev pub number_be : List Bool → ℕ
number_be xs = number_of (λ j. length xs - 1 - j) (element xs) (length xs)

-- the `count` lowest digits of a number, the lowest first
abbrev pub digits_le : ℕ → ℕ → List Bool
digits_le count n = tabulate count (digit n)

-- the `count` lowest digits of a number, the highest of them first
abbrev pub digits_be : ℕ → ℕ → List Bool
digits_be count n = tabulate count (λ j. digit n (count - 1 - j))
