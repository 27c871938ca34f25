use Rattle.std.proofs.Common.{◌∙◌}
use Rattle.bitvec_ptr.proofs.PlaceLemmas.{whole_last}
use Rattle.bitvec_ptr.proofs.ptr.copy.words.whole_and_last.Goals as goal

pub returns-clause-all : goal.returns-clause-all
returns-clause-all g c =
    (whole_last g.R.BitRegister.BITS c.from-width.result c.args.bit c.from.result c.args.count
    (c.from-width.ensures ∙ c.BITS.ensures) c.from.ensures c.requires.bit_in c.requires.more).0

pub returns-clause-most : goal.returns-clause-most
returns-clause-most g c =
    (whole_last g.R.BitRegister.BITS c.from-width.result c.args.bit c.from.result c.args.count
    (c.from-width.ensures ∙ c.BITS.ensures) c.from.ensures c.requires.bit_in c.requires.more).1

pub returns-clause-met : goal.returns-clause-met
returns-clause-met g c =
    (whole_last g.R.BitRegister.BITS c.from-width.result c.args.bit c.from.result c.args.count
    (c.from-width.ensures ∙ c.BITS.ensures) c.from.ensures c.requires.bit_in c.requires.more).2
