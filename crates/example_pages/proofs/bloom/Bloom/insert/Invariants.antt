use Rattle.std.proofs.Common.{◌≡◌, ◌+◌, ◌<◌, ◌≤◌, ◌⊎◌, ℕ, true, length}
use Rattle.bitvec.specs.Span.{element}
use Rattle.bitvec.specs.Truths.{ones_in}
use Rattle.example_pages.specs.Bloom.{filter_bits}
use Rattle.example_pages.specs.Keys.{probe_of}
use Rattle.example_pages.proofs.bloom.Bloom.insert.Given as goal

-- the probes before this one are set, what was set at first still is, no other bit is set, and each probe has set at most one bit more
abbrev pub invariant-loop-i : goal.invariant-loop-i
invariant-loop-i g l =
    (length (filter_bits l.self) ≡ l.bits)
    × ((k : ℕ) → k < l.i → element (filter_bits l.self) (probe_of l.bits l.key k) ≡ true)
    × ((j : ℕ) → element (filter_bits l.initial.self) j ≡ true → element (filter_bits l.self) j ≡ true)
    × ((j : ℕ) → element (filter_bits l.self) j ≡ true
    → (element (filter_bits l.initial.self) j ≡ true) ⊎ ((k : ℕ) × (k < l.i) × (j ≡ probe_of l.bits l.key k)))
    × (ones_in (filter_bits l.self) ≤ ones_in (filter_bits l.initial.self) + l.i)
