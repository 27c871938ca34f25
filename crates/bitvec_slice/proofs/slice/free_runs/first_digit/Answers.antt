use Rattle.std.proofs.Common.{refl, ◌∙◌}
use Rattle.bitvec_slice.proofs.FreeRunLemmas.{first_rising_any, first_falling, digits_none}
use Rattle.bitvec_slice.proofs.slice.free_runs.first_digit.Goals as goal

pub returns-then-rises : goal.returns-then-rises
returns-then-rises g c = first_rising_any g.R.BitRegister.BITS c.args.rises (g.R.BitRegister.number c.args.word) c.lowest_one.result c.if-rises.true c.lowest_one.ensures

pub returns-in-Some : goal.returns-in-Some
returns-in-Some g c = first_falling g.R.BitRegister.BITS c.args.rises (g.R.BitRegister.number c.args.word) c.in-Some.position _ c.MASK.result c.if-rises.false (c.MASK.ensures ∙ g.met.R.BitRegister.mask_is_greatest_index) refl c.in-Some.ensures

pub returns-in-None : goal.returns-in-None
returns-in-None g c = λ i. digits_none g.R.BitRegister.BITS c.args.rises (g.R.BitRegister.number c.args.word) i c.in-None.ensures
