-- A map of blocks in words of a memory.
use Rattle.std.specs.Prelude.{ℕ, Bool, List, map}
use Rattle.bitvec.specs.Memory.{memory_bits}

-- of each block whether it is in use
abbrev pub used_blocks : {W : Type 0} → (W → ℕ) → ℕ → (ℕ → ℕ) → List W → List Bool
used_blocks number bits at words = memory_bits bits at (map number words)
