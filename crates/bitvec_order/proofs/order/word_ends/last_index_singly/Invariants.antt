use Rattle.std.proofs.Common.{◌≡◌, ℕ, ◌<◌, ◌≤◌, false}
use Rattle.bitvec_mem.specs.Digit.{digit}
use Rattle.bitvec_order.proofs.order.word_ends.last_index_singly.Given as goal

-- no index from this one on has a one
abbrev pub invariant-loop-end : goal.invariant-loop-end
invariant-loop-end g l =
    (l.end ≤ g.R.BitRegister.BITS)
    × ((i : ℕ) → l.end ≤ i → i < g.R.BitRegister.BITS → digit (g.R.BitRegister.number l.fn.word) (g.O.BitAt.at_of i) ≡ false)

abbrev pub decreases-loop-end : goal.decreases-loop-end
decreases-loop-end g l = l.end
