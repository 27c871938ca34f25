use Rattle.std.proofs.Common.{◌-◌, ◌^◌, ◌∙◌}
use Rattle.std.proofs.Math.Nat.{mod-eq_of_lt}
use Rattle.tests_slice.proofs.digits.put_and_read_le.Goals as goal

pub returns-clause-number : goal.returns-clause-number
returns-clause-number g c =
    let value = g.N.BitRegister.number c.args.value in
    c.load_digits_le.ensures ∙ c.store_digits_le.ensures.loaded ∙ mod-eq_of_lt {n = value} {m = 2 ^ (c.args.to - c.args.from)} c.requires.short
