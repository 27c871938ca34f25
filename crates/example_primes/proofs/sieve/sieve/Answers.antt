use Rattle.std.proofs.Common.{◌≡◌, ◌+◌, ◌∙◌, length, sym, subst, arith}
use Rattle.bitvec_vec.specs.BitVec.{vec_bits}
use Rattle.example_primes.specs.Primes.{HasNoDivisorBelow, IsSetOf}
use Rattle.example_primes.proofs.PrimeLemmas.{sieved_same, sieved_more}
use Rattle.example_primes.proofs.sieve.sieve.Goals as goal
use Rattle.example_primes.proofs.sieve.sieve.Goals.{then-get_unchecked, else-get_unchecked}

pub loop-number-preserved : goal.loop-number-preserved
loop-number-preserved c =
    let number = c.loop-number.number in
    let xs = vec_bits c.loop-number.set in
    let so = c.loop-number.invariant in
    elim c.if-get_unchecked.branch [
      | then-get_unchecked w ↦
          subst (λ it. (length (vec_bits it) ≡ c.args.bound) × IsSetOf (HasNoDivisorBelow (number + 1)) (vec_bits it)) (sym w.set-is) (
            w.take_multiples.ensures.len ∙ so.0,
            sieved_more number xs (vec_bits w.take_multiples.new.set) w.take_multiples.ensures.len so.1 w.take_multiples.ensures.out (omega (arith, c.loop-number.auto.number)),
          )
      | else-get_unchecked w ↦
          subst (λ it. (length (vec_bits it) ≡ c.args.bound) × IsSetOf (HasNoDivisorBelow (number + 1)) (vec_bits it)) (sym w.set-is) (
            so.0,
            sieved_same number xs (omega (arith, c.loop-number.auto.number)) (omega (arith, c.loop-number-test.true, so.0)) (sym c.get_unchecked.ensures ∙ w.if-get_unchecked.false) so.1,
          )
    ]
