use Rattle.std.proofs.Common.{◌≡◌, length}
use Rattle.bitvec_vec.specs.BitVec.{vec_bits}
use Rattle.example_primes.specs.Primes.{HasNoDivisorBelow, IsSetOf}
use Rattle.example_primes.proofs.sieve.sieve.Given as goal

-- the set has as many numbers as are asked for, and of these the ones that no number below `number` divides
abbrev pub invariant-loop-number : goal.invariant-loop-number
invariant-loop-number l = (length (vec_bits l.set) ≡ l.bound) × IsSetOf (HasNoDivisorBelow l.number) (vec_bits l.set)
