use Rattle.std.proofs.Common.{sym, subst, arith}
use Rattle.std.specs.Int.{w128, trailing_zeros}
use Rattle.bitvec_mem.specs.Ones.{IsLowestOne}
use Rattle.bitvec_mem.proofs.EndDigits.{no_one, lowest}
use Rattle.bitvec_mem.proofs.mem.ones.lowest_one.Goals as goal

pub returns-then-number-eq0 : goal.returns-then-number-eq0
returns-then-number-eq0 g c = no_one g.R.BitRegister.BITS (g.R.BitRegister.number c.args.word) (omega (arith, c.to_u128-number.ensures.number, c.if-number-eq0.true))

pub returns : goal.returns
returns g c =
    let bits = g.R.BitRegister.BITS in
    let word = g.R.BitRegister.number c.args.word in
    let is = c.to_u128-number.ensures.number in
    subst (λ n. IsLowestOne bits word (trailing_zeros w128 n)) (sym is)
    (lowest bits word g.met.R.BitRegister.width_at_most_128 c.to_u128-number.ensures.below (λ e. absurd (omega (arith, e, is, c.if-number-eq0.false))))
