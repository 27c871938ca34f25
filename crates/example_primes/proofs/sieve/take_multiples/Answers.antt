use Rattle.std.proofs.Common.{◌+◌, ◌*◌, ◌/◌, ◌∙◌, ap, sym, subst, arith}
use Rattle.bitvec_vec.specs.BitVec.{vec_bits}
use Rattle.example_primes.proofs.PrimeLemmas.{IsWithout, without_none, without_past, without_more, without_all}
use Rattle.example_primes.proofs.sieve.take_multiples.Goals as goal
use Rattle.example_primes.proofs.sieve.take_multiples.Goals.{then-multiple-len, else-multiple-len}

pub loop-times-init : goal.loop-times-init
loop-times-init c = without_none c.args.number (vec_bits c.args.set.now)

pub loop-times-preserved : goal.loop-times-preserved
loop-times-preserved c =
    let number = c.args.number in
    let times = c.loop-times.times in
    let xs = vec_bits c.args.set.now in
    let ys = vec_bits c.loop-times.set in
    elim c.if-multiple-len.branch [
      | then-multiple-len w ↦
          without_more number times xs ys (vec_bits c.if-multiple-len.set) (omega (arith, c.loop-times.auto.times)) (omega (arith, w.if-multiple-len.true, c.len-len.ensures))
          (ap vec_bits w.set-is ∙ w.set.ensures.bits) c.loop-times.invariant
      | else-multiple-len w ↦
          subst (λ it. IsWithout number (times + 1) xs (vec_bits it)) (sym w.set-is)
          (without_past number times xs ys (omega (arith, w.if-multiple-len.false, c.len-len.ensures)) c.loop-times.invariant)
    ]

pub returns-clause-out : goal.returns-clause-out
returns-clause-out c =
    let row = ap (λ n. n / c.args.number) c.len-len.ensures in
    without_all c.args.number c.loop-times.times (vec_bits c.args.set.now) (vec_bits c.loop-times.set) c.requires (omega (arith, row, c.loop-times-test.false)) c.loop-times.invariant
