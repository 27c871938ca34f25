use Rattle.std.proofs.Common.{◌≡◌, ◌<◌, ◌^◌, ◌∙◌, ◌==◌, not, ap, arith}
use Rattle.bitvec_mem.specs.Digit.{digit}
use Rattle.bitvec_mem.proofs.DigitLemmas.{meets}
use Rattle.bitvec_order.proofs.index.BitMask.test.Goals as goal

pub returns : goal.returns
returns g c p h =
    let zero : g.R.BitRegister.number c.ZERO.result ≡ 0 = ap g.R.BitRegister.number c.ZERO.ensures ∙ g.met.R.BitRegister.zero_is_0 in
    let zero_below : g.R.BitRegister.number c.ZERO.result < 2 ^ g.R.BitRegister.BITS = omega (arith, zero, c.and.ensures.below) in
    c.ne.ensures
    ∙ ap not (g.met.R.BitRegister.eq_compares_numbers c.and.result c.ZERO.result c.and.ensures.below zero_below ∙ ap (λ z. g.R.BitRegister.number c.and.result == z) zero)
    ∙ meets g.R.BitRegister.BITS (g.R.BitRegister.number c.self.inside.mask) (g.R.BitRegister.number c.sel.inside.sel) p (g.R.BitRegister.number c.and.result)
    c.and.ensures.below c.sel.invariant.0 (c.sel.view_is ∙ h) c.and.ensures.digits
    ∙ ap (λ m. digit m p) c.self.view_is
