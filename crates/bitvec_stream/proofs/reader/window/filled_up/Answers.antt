use Rattle.std.proofs.Common.{rules}
use Rattle.bitvec_stream.proofs.KeepLemmas.{rises_else, keeps_below, keeps_above}
use Rattle.bitvec_stream.proofs.reader.window.filled_up.Goals as goal

pub returns-then-eq : goal.returns-then-eq
returns-then-eq g c =
    let number = g.R.BitRegister.number in
    keeps_below g.R.BitRegister.BITS g.O.BitAt.at_of c.args.kept (number c.args.word) (number c.args.next) (number c.shr.result) (number c.or.result) c.requires.few c.or.ensures.digits
    (c.direction_of.ensures.falls.0 (search (rules, c.if-eq.true, c.eq.ensures))) c.shr.ensures.moved c.shr.ensures.high

pub returns-else-eq : goal.returns-else-eq
returns-else-eq g c =
    let number = g.R.BitRegister.number in
    keeps_above g.R.BitRegister.BITS g.O.BitAt.at_of c.args.kept (number c.args.word) (number c.args.next) (number c.shl.result) (number c.or-else-eq.result) c.requires.few c.or-else-eq.ensures.digits
    (rises_else g.R.BitRegister.BITS g.O.BitAt.at_of c.requires.way (λ falls. absurd (search (rules, c.if-eq.false, c.eq.ensures, c.direction_of.ensures.falls.1 falls)))) c.shl.ensures.low c.shl.ensures.moved
