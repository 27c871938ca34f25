use Rattle.std.proofs.Common.{◌≡◌, ℕ, ◌<◌, ◌≤◌}
use Rattle.bitvec_order.specs.Order.{plain_mask_of}
use Rattle.bitvec_order.proofs.order.plain_mask.Given as goal

abbrev pub invariant-loop-i : goal.invariant-loop-i
invariant-loop-i g l = record {
  value : l.mask ≡ plain_mask_of g.O.BitAt.at_of l.first l.i;
  below : (k : ℕ) → l.first ≤ k → k < l.i → g.O.BitAt.at_of k < g.R.BitRegister.BITS;
}
