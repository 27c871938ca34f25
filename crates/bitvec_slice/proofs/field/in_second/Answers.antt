use Rattle.std.proofs.Common.{sym, ◌∙◌, arith}
use Rattle.bitvec_slice.proofs.FieldNearLemmas.{second_rising, second_falling}
use Rattle.bitvec_slice.proofs.field.in_second.Goals as goal

pub returns-then-RISES : goal.returns-then-RISES
returns-then-RISES g c =
    let span = c.args.span in
    let number = g.R.BitRegister.number in
    second_rising g.R.BitRegister.BITS span.head span.len g.O.BitAt.at_of (number c.args.word) (number c.shr.result) _ g.O.Sequential.RISES (sym c.RISES.ensures ∙ c.if-RISES.true) g.met.O.Sequential.sequence c.requires.below
    (omega (arith, span.in_word, g.met.R.BitRegister.width_at_least_8)) (omega (arith, c.BITS.ensures, c.into_inner-head.ensures.value, c.head.ensures)) (c.shr.ensures.moved, c.shr.ensures.high)

pub returns : goal.returns
returns g c =
    let span = c.args.span in
    let number = g.R.BitRegister.number in
    second_falling g.R.BitRegister.BITS span.head span.len g.O.BitAt.at_of (number c.args.word) (number c.shl.result) _ g.O.Sequential.RISES (sym c.RISES.ensures ∙ c.if-RISES.false) g.met.O.Sequential.sequence
    (omega (arith, span.in_word, g.met.R.BitRegister.width_at_least_8)) c.requires.near c.requires.over
    (omega (arith, c.BITS-2.ensures, c.BITS-3.ensures, c.into_inner-head.ensures.value, c.head.ensures, c.len.ensures)) (c.shl.ensures.low, c.shl.ensures.moved)
