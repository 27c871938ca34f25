use Rattle.std.proofs.Common.{◌-◌, ◌^◌, inl, ap, arith, ◌∙◌}
use Rattle.std.proofs.Math.Nat.{mod-eq_of_lt}
use Rattle.bitvec_slice.specs.Numbers.{number_be}
use Rattle.tests_slice.proofs.digits.put_two_be.Goals as goal

pub returns-clause-first : goal.returns-clause-first
returns-clause-first g c =
    let value = g.N.BitRegister.number c.args.values.0 in
    let kept = c.store_digits_be-2.ensures.beside c.args.from c.args.middle (inl (omega arith)) in
    c.load_digits_be.ensures ∙ ap number_be kept ∙ c.store_digits_be.ensures.loaded ∙ mod-eq_of_lt {n = value} {m = 2 ^ (c.args.middle - c.args.from)} c.requires.first_short

pub returns-clause-second : goal.returns-clause-second
returns-clause-second g c =
    let value = g.N.BitRegister.number c.args.values.1 in
    c.load_digits_be-2.ensures ∙ c.store_digits_be-2.ensures.loaded ∙ mod-eq_of_lt {n = value} {m = 2 ^ (c.args.to - c.args.middle)} c.requires.second_short
