use Rattle.std.proofs.Common.{◌≡◌, ℕ, ◌<◌}
use Rattle.bitvec_order.proofs.order.is_rising.Given as goal

abbrev pub invariant-loop-index : goal.invariant-loop-index
invariant-loop-index g l = (i : ℕ) → i < l.index → g.O.BitAt.at_of i ≡ i
