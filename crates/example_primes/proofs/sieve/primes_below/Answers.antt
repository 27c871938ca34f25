use Rattle.std.proofs.Common.{sym, subst}
use Rattle.std.specs.List.Sorted.{IsStrictlyIncreasing}
use Rattle.bitvec_vec.specs.BitVec.{vec_bits}
use Rattle.bitvec_vec.proofs.VecLemmas.{on_err}
use Rattle.example_primes.proofs.PrimeLemmas.{numbers_rise, primes_are, bound_above_2}
use Rattle.example_primes.proofs.sieve.primes_below.Goals as goal

pub returns-clause-rising : goal.returns-clause-rising
returns-clause-rising c = subst IsStrictlyIncreasing (sym c.in_ok-primes.ensures.numbers) (numbers_rise (vec_bits c.in_ok-set.set))

pub returns-clause-primes : goal.returns-clause-primes
returns-clause-primes c =
    let set = c.in_ok-set.ensures in
    primes_are (vec_bits c.in_ok-set.set) c.in_ok-primes.primes.items c.args.bound c.in_ok-primes.ensures.numbers set.len set.none set.primes

pub returns-in_err-primes-clause-full : goal.returns-in_err-primes-clause-full
returns-in_err-primes-clause-full c =
    let set = c.in_ok-set.ensures in
    on_err c.from_residual-in_err-primes.result (bound_above_2 (vec_bits c.in_ok-set.set) c.args.bound set.len set.none set.primes c.in_err-primes.ensures.full)
