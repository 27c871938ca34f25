use Rattle.std.proofs.Common.{◌≡◌, take}
use Rattle.std.specs.List.{filter}
use Rattle.bitvec_vec.specs.BitVec.{vec_bits}
use Rattle.tests_vec.proofs.callers.ones_alone.Given as goal

-- the ones among the first i bits
abbrev pub invariant-loop-i : goal.invariant-loop-i
invariant-loop-i g l = vec_bits l.ones ≡ filter (λ bit. bit) (take l.i (vec_bits l.bits))
