use Rattle.std.proofs.Common.{ℕ, ◌<◌, length, get_or}
use Rattle.bitvec_call.specs.Plain.{plain_span}
use Rattle.bitvec.specs.Span.{AreDisjoint}
use Rattle.bitvec_call.proofs.plain.are_apart.Given as goal

-- each span so far is apart from each later one
abbrev pub invariant-loop-i : goal.invariant-loop-i
invariant-loop-i g l = (a b : ℕ) (d : _) → a < l.i → a < b → b < length l.spans → AreDisjoint g.R.BitRegister.BITS (plain_span g.R.BitRegister.BITS (get_or l.spans a d)) (plain_span g.R.BitRegister.BITS (get_or l.spans b d))
