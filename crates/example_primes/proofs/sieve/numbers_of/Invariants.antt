use Rattle.std.proofs.Common.{◌≡◌, ◌++◌, length}
use Rattle.bitvec_slice.specs.Bits.{ones_between}
use Rattle.bitvec_vec.specs.BitVec.{vec_bits}
use Rattle.bitvec_slice.specs.Ones.{ones_left}
use Rattle.example_primes.proofs.sieve.numbers_of.Given as goal

-- what is collected, and what is still to come, are the numbers of the set
abbrev pub invariant-loop-number : goal.invariant-loop-number
invariant-loop-number l = l.numbers.items ++ ones_left l.number-iterator ≡ ones_between (vec_bits l.set) 0 (length (vec_bits l.set))
