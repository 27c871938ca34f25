use Rattle.std.proofs.Common.{sym, ◌∙◌, arith}
use Rattle.bitvec_slice.proofs.FieldNearLemmas.{first_rising, first_falling}
use Rattle.bitvec_slice.proofs.field.in_only.Goals as goal

pub returns-then-RISES : goal.returns-then-RISES
returns-then-RISES g c =
    let span = c.args.span in
    let number = g.R.BitRegister.number in
    first_rising g.R.BitRegister.BITS span.head span.len g.O.BitAt.at_of (number c.args.word) (number c.shl.result) c.into_inner-head.result g.O.Sequential.RISES (sym c.RISES.ensures ∙ c.if-RISES.true) g.met.O.Sequential.sequence
    (omega (arith, c.into_inner-head.ensures.value, c.head.ensures)) (c.shl.ensures.low, c.shl.ensures.moved)

pub returns : goal.returns
returns g c =
    let span = c.args.span in
    let number = g.R.BitRegister.number in
    first_falling g.R.BitRegister.BITS span.head span.len g.O.BitAt.at_of (number c.args.word) (number c.shl-2.result) _ g.O.Sequential.RISES (sym c.RISES.ensures ∙ c.if-RISES.false) g.met.O.Sequential.sequence
    c.requires.within (omega (arith, c.BITS.ensures, c.into_inner-head.ensures.value, c.head.ensures, c.len.ensures)) (c.shl-2.ensures.low, c.shl-2.ensures.moved)
