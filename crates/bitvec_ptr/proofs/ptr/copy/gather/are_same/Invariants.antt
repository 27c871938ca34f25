use Rattle.std.proofs.Common.{◌≡◌, ℕ, ◌<◌}
use Rattle.bitvec_ptr.proofs.ptr.copy.gather.are_same.Given as goal

abbrev pub invariant-loop-index : goal.invariant-loop-index
invariant-loop-index g l = (i : ℕ) → i < l.index → g.O.BitAt.at_of i ≡ g.O2.BitAt.at_of i
