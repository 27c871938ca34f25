use Rattle.std.proofs.Common.{◌∙◌, arith}
use Rattle.bitvec_vec.proofs.FrontLemmas.{words-rounded}
use Rattle.bitvec_vec.proofs.vec.front.words_of_bits.Goals as goal

pub returns : goal.returns
returns g c = c.elts.ensures ∙ words-rounded g.R.BitRegister.BITS c.args.len (omega (arith, g.met.R.BitRegister.width_at_least_8))
