use Rattle.std.proofs.Common.{◌≡◌, ℕ, ◌<◌, get_or}
use Rattle.bitvec.proofs.run.sort_near_places.Given as goal

-- each number so far stands at its own index
abbrev pub invariant-loop-i : goal.invariant-loop-i
invariant-loop-i g l = (k : ℕ) → k < l.i → get_or l.order k 0 ≡ k
