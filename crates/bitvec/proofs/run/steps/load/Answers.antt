use Rattle.std.proofs.Common.{map, refl}
use Rattle.bitvec_span.specs.BitSpan.{span_of}
use Rattle.bitvec.specs.declared.run.command.Command.TheVariants.{Load}
use Rattle.bitvec.proofs.CommandLemmas.{past-word, step-load}
use Rattle.bitvec.proofs.run.steps.load.Goals as goal

pub returns-in-Some : goal.returns-in-Some
returns-in-Some g c =
    let number = g.R.BitRegister.number in
    let words = map number c.args.memory.now in
    step-load number g.R.BitRegister.BITS g.O.BitAt.at_of (span_of c.args.span) words words c.args.k _ c.in-Some.ensures.0 c.in-Some.ensures.1 refl

pub returns-in-None : goal.returns-in-None
returns-in-None g c =
    let number = g.R.BitRegister.number in
    let words = map number c.args.memory.now in
    past-word number g.R.BitRegister.BITS g.O.BitAt.at_of (span_of c.args.span) words words (Load c.args.k) c.args.k _ refl c.in-None.ensures refl
