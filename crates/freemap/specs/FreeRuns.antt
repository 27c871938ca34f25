-- The runs of free blocks in a map.
use Rattle.std.specs.Prelude.{◌≡◌, ℕ, ◌+◌, ◌<◌, ◌≤◌, Bool, true, false, not, List, length, map}
use Rattle.bitvec.specs.Span.{element}
use Rattle.bitvec_slice.specs.Bits.{AllBetween, AreFree}
use Rattle.bitvec_slice.specs.Stretches.{runs_from}

-- The first run of free blocks from block `from` on, by its first block and how many they are. Every block between is in
-- use, and the block behind the run is in use or not there.
pub record IsNextRun (used : List Bool) (from at count : ℕ) : Type 0 where
  pub later : from ≤ at
  pub passed : AllBetween true used from at
  pub some : 0 < count
  pub free : AreFree used at count
  pub ends : at + count < length used → element used (at + count) ≡ true

-- one past the free blocks in a row from a free one on
pub record IsEnd (used : List Bool) (at end : ℕ) : Type 0 where
  pub some : at < end
  pub inside : end ≤ length used
  pub free : AllBetween false used at end
  pub ends : end < length used → element used end ≡ true

-- the runs of free blocks that begin at block `from` or behind it, lowest first: the first block of each, and how many they are
abbrev pub free_runs_from : List Bool → ℕ → List (ℕ × ℕ)
free_runs_from used from = runs_from (map not used) from

-- all of them
abbrev pub free_runs : List Bool → List (ℕ × ℕ)
free_runs used = free_runs_from used 0
