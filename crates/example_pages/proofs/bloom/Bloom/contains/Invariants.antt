use Rattle.std.proofs.Common.{◌≡◌, ◌<◌, ℕ, true}
use Rattle.bitvec.specs.Span.{element}
use Rattle.example_pages.specs.Bloom.{filter_bits}
use Rattle.example_pages.specs.Keys.{probe_of}
use Rattle.example_pages.proofs.bloom.Bloom.contains.Given as goal

-- the probes before this one are set
abbrev pub invariant-loop-i : goal.invariant-loop-i
invariant-loop-i g l = (k : ℕ) → k < l.i → element (filter_bits l.self) (probe_of l.bits l.key k) ≡ true
