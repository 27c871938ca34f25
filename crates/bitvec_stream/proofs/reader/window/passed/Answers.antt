use Rattle.std.proofs.Common.{rules}
use Rattle.bitvec_stream.proofs.KeepLemmas.{rises_else, keeps_up, keeps_down}
use Rattle.bitvec_stream.proofs.reader.window.passed.Goals as goal

pub returns-then-eq : goal.returns-then-eq
returns-then-eq g c =
    let number = g.R.BitRegister.number in
    keeps_up g.R.BitRegister.BITS g.O.BitAt.at_of (number c.args.word) c.args.count (number c.shl.result)
    (c.direction_of.ensures.falls.0 (search (rules, c.if-eq.true, c.eq.ensures))) c.shl.ensures.low c.shl.ensures.moved

pub returns-else-eq : goal.returns-else-eq
returns-else-eq g c =
    let number = g.R.BitRegister.number in
    keeps_down g.R.BitRegister.BITS g.O.BitAt.at_of (number c.args.word) c.args.count (number c.shr.result)
    (rises_else g.R.BitRegister.BITS g.O.BitAt.at_of c.requires.way (λ falls. absurd (search (rules, c.if-eq.false, c.eq.ensures, c.direction_of.ensures.falls.1 falls)))) c.shr.ensures.moved c.shr.ensures.high
