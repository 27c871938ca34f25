use Rattle.std.proofs.Common.{map, refl, arith}
use Rattle.bitvec_span.specs.BitSpan.{span_of}
use Rattle.bitvec.specs.declared.run.command.Command.TheVariants.{Replace}
use Rattle.bitvec.proofs.CommandLemmas.{past-bit, step-replace}
use Rattle.bitvec.proofs.run.steps.replace.Goals as goal

pub returns-then-index-len : goal.returns-then-index-len
returns-then-index-len g c =
    let number = g.R.BitRegister.number in
    step-replace number g.R.BitRegister.BITS g.O.BitAt.at_of (span_of c.args.span) (map number c.args.memory.now) (map number c.replace.new.memory)
    c.args.index c.args.bit c.replace.result (omega (arith, c.len.ensures)) c.replace.ensures.previous c.replace.ensures.becomes

pub returns-else-index-len : goal.returns-else-index-len
returns-else-index-len g c =
    let number = g.R.BitRegister.number in
    let words = map number c.args.memory.now in
    past-bit number g.R.BitRegister.BITS g.O.BitAt.at_of (span_of c.args.span) words words (Replace c.args.index c.args.bit) c.args.index _ _ refl
    (omega (arith, c.len.ensures)) refl
