use Rattle.std.proofs.Common.{map, ap, refl}
use Rattle.bitvec_ptr.proofs.PlaceOrder.{bit_below}
use Rattle.bitvec_span.specs.BitSpan.{span_of}
use Rattle.bitvec_span.proofs.BecomesLemmas.{fits-numbers}
use Rattle.bitvec.specs.declared.run.command.Command.TheVariants.{Set}
use Rattle.bitvec.proofs.CommandLemmas.{past-word, step-set}
use Rattle.bitvec.proofs.run.steps.set.Goals as goal

pub returns-in-Some : goal.returns-in-Some
returns-in-Some g c =
    let number = g.R.BitRegister.number in
    let width = g.R.BitRegister.BITS in
    let span = c.args.span in
    step-set number width g.O.BitAt.at_of (span_of span) (map number c.args.memory.now) _ c.args.k _ g.met.O.BitOrder.one_to_one
    (bit_below width span.head g.met.R.BitRegister.width_at_least_8 span.in_word) (fits-numbers width (span_of span) number c.args.memory.now c.requires)
    c.in-Some.ensures.0 c.in-Some.ensures.1

pub returns-in-None : goal.returns-in-None
returns-in-None g c =
    let number = g.R.BitRegister.number in
    past-word number g.R.BitRegister.BITS g.O.BitAt.at_of (span_of c.args.span) (map number c.args.memory.now) _ (Set c.args.k) c.args.k _ refl
    c.in-None.ensures.0 (ap (map number) c.in-None.ensures.1)
