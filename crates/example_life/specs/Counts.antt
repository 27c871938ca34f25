-- What a row of numbers shows.
use Rattle.std.specs.Prelude.{◌≡◌, ℕ, ◌+◌, ◌*◌, ◌<◌, ◌≤◌, Bool, true, false}
use Rattle.bitvec.specs.Span.{element}
use Rattle.bitvec_array.specs.BitArray.{array_bits}
use Rattle.example_life.specs.Rule.{one_if}
use Rattle.example_life.specs.Tally.{IsTally}
use Rattle.example_life.specs.declared.counts.Counts.{Counts}

-- the number of a cell, or that both are at least 4
abbrev pub CountsTo : {O : Type 0} {a b : _} → Counts O a b → ℕ → ℕ → Type 0
CountsTo counts j n = IsTally (element (array_bits counts.ones) j) (element (array_bits counts.twos) j) (element (array_bits counts.fours) j) n
