use Rattle.std.proofs.Common.{◌-◌, sym, subst, pow_mono, arith}
use Rattle.std.specs.Int.{w64, w128, leading_zeros}
use Rattle.bitvec_mem.specs.Ones.{IsHighestOne}
use Rattle.bitvec_mem.proofs.EndDigits.{no_one, highest}
use Rattle.bitvec_mem.proofs.mem.ones.highest_one.Goals as goal

pub returns-then-number-eq0 : goal.returns-then-number-eq0
returns-then-number-eq0 g c = no_one g.R.BitRegister.BITS (g.R.BitRegister.number c.args.word) (omega (arith, c.to_u128-number.ensures.number, c.if-number-eq0.true))

pub returns-then-number : goal.returns-then-number
returns-then-number g c =
    let bits = g.R.BitRegister.BITS in
    let word = g.R.BitRegister.number c.args.word in
    let is = c.to_u128-number.ensures.number in
    subst (λ n. IsHighestOne bits word (63 - leading_zeros w64 n)) (sym is)
    (highest bits 64 word c.to_u128-number.ensures.below (omega (arith, is, c.if-number.true)) (λ e. absurd (omega (arith, e, is, c.if-number-eq0.false))))

pub returns : goal.returns
returns g c =
    let bits = g.R.BitRegister.BITS in
    let word = g.R.BitRegister.number c.args.word in
    let is = c.to_u128-number.ensures.number in
    subst (λ n. IsHighestOne bits word (127 - leading_zeros w128 n)) (sym is)
    (highest bits 128 word c.to_u128-number.ensures.below (omega (arith, c.to_u128-number.ensures.below, pow_mono g.met.R.BitRegister.width_at_most_128)) (λ e. absurd (omega (arith, e, is, c.if-number-eq0.false))))
