use Rattle.std.proofs.Common.{ap, sym, ◌∙◌}
use Rattle.bitvec_mem.specs.Digit.{digit}
use Rattle.bitvec_mem.proofs.DigitLemmas.{digit-zero, digit_all}
use Rattle.bitvec_span.proofs.ptr.span.edit.same_bits.Goals as goal

pub returns-then-bit : goal.returns-then-bit
returns-then-bit g c =
    let all = ap g.R.BitRegister.number c.ALL.ensures ∙ g.met.R.BitRegister.all_is_greatest in
    λ p h. ap (λ n. digit n p) all ∙ digit_all g.R.BitRegister.BITS p h ∙ sym c.if-bit.true

pub returns-else-bit : goal.returns-else-bit
returns-else-bit g c =
    let zero = ap g.R.BitRegister.number c.ZERO.ensures ∙ g.met.R.BitRegister.zero_is_0 in
    λ p h. ap (λ n. digit n p) zero ∙ digit-zero p ∙ sym c.if-bit.false
