use Rattle.std.proofs.Common.{◌≡◌, ◌+◌, ◌-◌, subst, ◌∙◌, arith}
use Rattle.bitvec.specs.Digit.{digit}
use Rattle.bitvec_slice.proofs.FieldJoinLemmas.{digit-merged}
use Rattle.bitvec_slice.proofs.field.merged.Goals as goal

pub returns-clause-digits : goal.returns-clause-digits
returns-clause-digits g c =
    λ p small.
    let number = g.R.BitRegister.number in
    c.or.ensures.digits p small
    ∙ digit-merged g.R.BitRegister.BITS c.args.by p (number c.args.low) (number c.args.high) (number c.shr.result) (number c.shl.result) c.requires.most small
    (c.shr.ensures.moved p) (c.shr.ensures.high p small) (λ h. c.shl.ensures.low p (omega (arith, h, c.BITS.ensures)))
    (λ q h. subst (λ n. digit (number c.shl.result) (n - c.args.by + q) ≡ digit (number c.args.high) q) c.BITS.ensures (c.shl.ensures.moved q (omega (arith, h, c.BITS.ensures, c.requires.most))))
