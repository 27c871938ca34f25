use Rattle.std.proofs.Common.{◌≡◌, ◌==◌, ℕ, ◌<◌, false}
use Rattle.bitvec_verify.proofs.verify.is_repeated.Given as goal

abbrev pub invariant-loop-lower : goal.invariant-loop-lower
invariant-loop-lower g l = (k : ℕ) → k < l.lower → (g.O.BitAt.at_of k == g.O.BitAt.at_of l.fn.index) ≡ false
