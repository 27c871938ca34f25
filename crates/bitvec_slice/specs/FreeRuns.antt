-- Runs of ones among the digits of a word, and the zeros of a list that lies in words. `bits` is the width of a word, and
-- `rises` says whether positions rise with the index.
use Rattle.std.specs.Prelude.{◌≡◌, ◌↔◌, ℕ, ◌+◌, ◌-◌, ◌<◌, ◌≤◌, ◌&&◌, ◌||◌, Bool, true, false, not, List, length, Option, MatchOption, nat_le, nat_lt}
use Rattle.bitvec.specs.Digit.{digit}
use Rattle.bitvec.specs.Span.{element}
use Rattle.bitvec_slice.specs.Field.{position_of}

-- whether a word's digit of index i is one; none is past its width
unfoldable pub digit_of : ℕ → Bool → ℕ → ℕ → Bool
digit_of bits rises word i = nat_lt i bits && digit word (position_of bits rises i)

-- `count` numbers from s on pass a test
abbrev pub AllPass : (ℕ → Bool) → ℕ → ℕ → Type 0
AllPass test s count = (j : ℕ) → s ≤ j → j < s + count → test j ≡ true

-- s is the first number from which on `count` pass a test
abbrev pub IsFirstRun : (ℕ → Bool) → ℕ → ℕ → Type 0
IsFirstRun test count s = AllPass test s count × ((t : ℕ) → t < s → ¬ AllPass test t count)

-- the last number below n that passes a test, if one does
abbrev pub IsLastBelow : (ℕ → Bool) → ℕ → Option ℕ → Type 0
IsLastBelow test n result = MatchOption result ((i : ℕ) → test i ≡ false) (λ i. (i < n) × (test i ≡ true) × ((j : ℕ) → i < j → test j ≡ false))

-- the first number from which on `count` pass a test, which is below n, if there is one
abbrev pub FindsFirstRun : (ℕ → Bool) → ℕ → ℕ → Option ℕ → Type 0
FindsFirstRun test count n result = MatchOption result ((s : ℕ) → ¬ AllPass test s count) (λ s. (s < n) × IsFirstRun test count s)

-- the numbers from which on `count` pass a test are those that pass another
abbrev pub AreStarts : (ℕ → Bool) → ℕ → (ℕ → Bool) → Type 0
AreStarts test count starts = (i : ℕ) → (starts i ≡ true) ↔ AllPass test i count

-- the first `before` numbers pass, and those behind them as they do a test from 0 on
unfoldable pub behind : ℕ → (ℕ → Bool) → ℕ → Bool
behind before test t = nat_lt t before || test (t - before)

-- whether a list has a zero at index m, counted from the start of its first word, in which it has the index `head`
unfoldable pub is_free : ℕ → List Bool → ℕ → Bool
is_free head xs m = nat_le head m && nat_lt (m - head) (length xs) && not (element xs (m - head))
