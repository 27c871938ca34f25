use Rattle.std.proofs.Common.{◌+◌, ◌<◌, map, sym, ◌∙◌, arith}
use Rattle.bitvec.specs.BitSpan.{span_of}
use Rattle.bitvec.specs.Span.{element, list_of}
use Rattle.bitvec_slice.proofs.FieldJoinLemmas.{one_rising, one_falling, two_rising, two_falling}
use Rattle.bitvec_slice.proofs.field.load_joined.Goals as goal

pub returns-then-RISES : goal.returns-then-RISES
returns-then-RISES g c =
    let span = c.args.span in
    let bits = g.R.BitRegister.BITS in
    let at = g.O.BitAt.at_of in
    one_rising bits span.head span.len at (element (list_of bits at (span_of span) (map g.R.BitRegister.number c.args.memory.now))) g.O.Sequential.RISES (sym c.RISES.ensures ∙ c.if-RISES.true) g.met.O.Sequential.sequence
    (g.R.BitRegister.number c.word_met-first.result) (g.R.BitRegister.number c.shr.result) c.into_inner-head.result c.word_met-first.ensures
    (omega (arith, c.if-end-width.true, c.BITS-width.ensures, c.into_inner-head.ensures.value, c.head.ensures, c.len.ensures)) (omega (arith, c.into_inner-head.ensures.value, c.head.ensures)) c.shr.ensures.moved

pub returns-else-RISES : goal.returns-else-RISES
returns-else-RISES g c =
    let span = c.args.span in
    let bits = g.R.BitRegister.BITS in
    let at = g.O.BitAt.at_of in
    one_falling bits span.head span.len at (element (list_of bits at (span_of span) (map g.R.BitRegister.number c.args.memory.now))) g.O.Sequential.RISES (sym c.RISES.ensures ∙ c.if-RISES.false) g.met.O.Sequential.sequence
    (g.R.BitRegister.number c.word_met-first.result) (g.R.BitRegister.number c.shr-else-RISES.result) _ c.word_met-first.ensures
    (omega (arith, c.if-end-width.true, c.BITS-width.ensures, c.into_inner-head.ensures.value, c.head.ensures, c.len.ensures))
    (omega (arith, c.BITS-width.ensures, c.into_inner-head.ensures.value, c.head.ensures, c.len.ensures)) c.shr-else-RISES.ensures.moved

pub returns-then-RISES-2 : goal.returns-then-RISES-2
returns-then-RISES-2 g c =
    let span = c.args.span in
    let bits = g.R.BitRegister.BITS in
    let at = g.O.BitAt.at_of in
    two_rising bits span.head span.len at (element (list_of bits at (span_of span) (map g.R.BitRegister.number c.args.memory.now))) g.O.Sequential.RISES (sym c.RISES-2.ensures ∙ c.if-RISES-2.true) g.met.O.Sequential.sequence
    (g.R.BitRegister.number c.word_met-first.result) (g.R.BitRegister.number c.word_met-second.result) (g.R.BitRegister.number c.merged.result) c.into_inner-head.result c.word_met-first.ensures c.word_met-second.ensures
    (omega (arith, span.in_word, g.met.R.BitRegister.width_at_least_8)) c.requires.small (omega (arith, c.into_inner-head.ensures.value, c.head.ensures)) c.merged.ensures.digits

pub returns-else-RISES-2 : goal.returns-else-RISES-2
returns-else-RISES-2 g c =
    let span = c.args.span in
    let bits = g.R.BitRegister.BITS in
    let at = g.O.BitAt.at_of in
    let over : bits < span.head + span.len = omega (arith, c.if-end-width.false, c.BITS-width.ensures, c.into_inner-head.ensures.value, c.head.ensures, c.len.ensures) in
    two_falling bits span.head span.len at (element (list_of bits at (span_of span) (map g.R.BitRegister.number c.args.memory.now))) g.O.Sequential.RISES (sym c.RISES-2.ensures ∙ c.if-RISES-2.false) g.met.O.Sequential.sequence
    (g.R.BitRegister.number c.word_met-first.result) (g.R.BitRegister.number c.word_met-second.result) (g.R.BitRegister.number c.merged-else-RISES-2.result) _ c.word_met-first.ensures c.word_met-second.ensures
    (omega (arith, span.in_word, g.met.R.BitRegister.width_at_least_8)) c.requires.small over
    (omega (arith, c.BITS-width.ensures, c.into_inner-head.ensures.value, c.head.ensures, c.len.ensures)) c.merged-else-RISES-2.ensures.digits
