-- The stretches of true elements in a list.
use Rattle.std.specs.Prelude.{ℕ, zero, suc, ◌-◌, ◌&&◌, Bool, not, List, length, map, drop}
use Rattle.std.specs.List.{filter, prefix_len, range_with_len}
use Rattle.bitvec.specs.Span.{element}

-- whether a stretch of true elements begins at an index: the element is true, and the one before it is not or is not there
abbrev pub begins_run : List Bool → ℕ → Bool
begins_run xs zero = element xs zero
begins_run xs (suc i) = element xs (suc i) && not (element xs i)

-- how many elements from index i on are true, before the next that is not
abbrev pub run_len : List Bool → ℕ → ℕ
run_len xs i = prefix_len (λ x. x) (drop i xs)

-- the stretches of true elements that begin at index `from` or behind it, in order: where each begins, and its length
abbrev pub runs_from : List Bool → ℕ → List (ℕ × ℕ)
runs_from xs from = map (λ i. (i, run_len xs i)) (filter (begins_run xs) (range_with_len from (length xs - from)))
