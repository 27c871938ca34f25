use Rattle.std.proofs.Common.{ℕ, ◌<◌, length, get_or}
use Rattle.bitvec_span.specs.BitSpan.{span_of}
use Rattle.bitvec_span.specs.Span.{AreDisjoint}
use Rattle.bitvec.proofs.run.are_apart.Given as goal

-- each span so far is apart from each later one
abbrev pub invariant-loop-i : goal.invariant-loop-i
invariant-loop-i g l = (a b : ℕ) (d : _) → a < l.i → a < b → b < length l.spans → AreDisjoint g.R.BitRegister.BITS (span_of (get_or l.spans a d)) (span_of (get_or l.spans b d))
