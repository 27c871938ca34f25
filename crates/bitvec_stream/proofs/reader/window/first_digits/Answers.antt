use Rattle.std.proofs.Common.{rules, arith, ◌^◌}
use Rattle.std.proofs.lemmas.Nat.{mod_below, pow_pos}
use Rattle.bitvec_stream.proofs.KeepLemmas.{number_falls, number_rises}
use Rattle.bitvec_stream.proofs.WindowLemmas.{first_small}
use Rattle.bitvec_stream.proofs.reader.window.first_digits.Goals as goal

pub returns-then-eq-clause-small : goal.returns-then-eq-clause-small
returns-then-eq-clause-small g c =
    let number = g.R.BitRegister.number in
    first_small g.R.BitRegister.BITS (number c.args.word) c.args.count _ (number c.shr.result) (omega (arith, c.BITS.ensures, c.requires.within)) c.shr.ensures.below c.shr.ensures.moved c.shr.ensures.high

pub returns-then-eq-clause-number : goal.returns-then-eq-clause-number
returns-then-eq-clause-number g c = λ xs place kept is less most long.
    let number = g.R.BitRegister.number in
    number_falls g.R.BitRegister.BITS g.O.BitAt.at_of (number c.args.word) c.args.count _ (number c.shr.result) (omega (arith, g.met.R.BitRegister.width_at_least_8))
    (c.direction_of.ensures.falls.0 (search (rules, c.if-eq.true, c.eq.ensures))) (omega (arith, c.BITS.ensures, c.requires.within))
    c.shr.ensures.below c.shr.ensures.moved c.shr.ensures.high xs place kept is less most long

pub returns-else-eq-clause-small : goal.returns-else-eq-clause-small
returns-else-eq-clause-small g c = omega (arith, c.lowest.ensures, mod_below (g.R.BitRegister.number c.args.word) (2 ^ c.args.count) (pow_pos c.args.count))

pub returns-else-eq-clause-number : goal.returns-else-eq-clause-number
returns-else-eq-clause-number g c = λ xs place kept is less most long.
    let number = g.R.BitRegister.number in
    number_rises g.R.BitRegister.BITS g.O.BitAt.at_of (number c.args.word) c.args.count (number c.lowest.result)
    (λ falls. absurd (search (rules, c.if-eq.false, c.eq.ensures, c.direction_of.ensures.falls.1 falls))) c.lowest.ensures xs place kept is less most long
