use Rattle.std.proofs.Common.{ℕ, ◌≡◌, ◌<◌}
use Rattle.bitvec.specs.Span.{element}
use Rattle.bits_lib.specs.View.{part_list}
use Rattle.bits_lib.proofs.view.Parts.same.Given as goal

-- the bits before number i are the same
abbrev pub invariant-loop-i : goal.invariant-loop-i
invariant-loop-i g l = (j : ℕ) → j < l.i → element (part_list l.self l.a) j ≡ element (part_list l.self l.b) j
