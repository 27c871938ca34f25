use Rattle.std.proofs.Common.{ℕ, ◌^◌, ◌<◌, subst, arith}
use Rattle.bitvec_slice.proofs.field.byte.Goals as goal

pub overflow_cast-result : goal.overflow_cast-result
overflow_cast-result g c =
    let small : g.R.BitRegister.number c.args.word < 2 ^ 8 = subst (λ (b : ℕ). g.R.BitRegister.number c.args.word < 2 ^ b) c.requires c.to_u128.ensures.below in
    omega (arith, small, c.to_u128.ensures.number)

pub returns-clause-below : goal.returns-clause-below
returns-clause-below g c =
    let small : g.R.BitRegister.number c.args.word < 2 ^ 8 = subst (λ (b : ℕ). g.R.BitRegister.number c.args.word < 2 ^ b) c.requires c.to_u128.ensures.below in
    omega (arith, small, c.to_u128.ensures.number)
