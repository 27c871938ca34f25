use Rattle.std.proofs.Common.{◌≡◌, ℕ, ◌<◌, false}
use Rattle.bitvec_mem.specs.Digit.{digit}
use Rattle.bitvec_order.proofs.order.word_ends.first_index_singly.Given as goal

-- no index before this one has a one
abbrev pub invariant-loop-index : goal.invariant-loop-index
invariant-loop-index g l = (i : ℕ) → i < l.index → digit (g.R.BitRegister.number l.fn.word) (g.O.BitAt.at_of i) ≡ false
