use Rattle.bitvec_vec.specs.BitVec.{vec_bits}
use Rattle.example_primes.proofs.PrimeLemmas.{IsWithout}
use Rattle.example_primes.proofs.sieve.take_multiples.Given as goal

-- of the multiples from two times the number on, those before `times` times it are out
abbrev pub invariant-loop-times : goal.invariant-loop-times
invariant-loop-times l = IsWithout l.number l.times (vec_bits l.fn.set) (vec_bits l.set)
