use Rattle.std.proofs.Common.{map, refl, arith}
use Rattle.bitvec_span.specs.BitSpan.{span_of}
use Rattle.bitvec.specs.declared.run.command.Command.TheVariants.{Read}
use Rattle.bitvec.proofs.CommandLemmas.{past-bit, step-read}
use Rattle.bitvec.proofs.run.steps.read.Goals as goal

pub returns-then-index-len : goal.returns-then-index-len
returns-then-index-len g c =
    let number = g.R.BitRegister.number in
    let words = map number c.args.memory.now in
    step-read number g.R.BitRegister.BITS g.O.BitAt.at_of (span_of c.args.span) words words c.args.index c.read.result
    (omega (arith, c.len.ensures)) c.read.ensures refl

pub returns-else-index-len : goal.returns-else-index-len
returns-else-index-len g c =
    let number = g.R.BitRegister.number in
    let words = map number c.args.memory.now in
    past-bit number g.R.BitRegister.BITS g.O.BitAt.at_of (span_of c.args.span) words words (Read c.args.index) c.args.index _ _ refl
    (omega (arith, c.len.ensures)) refl
