use Rattle.std.proofs.Common.{arith}
use Rattle.bitvec_call.proofs.PlainRangeLemmas.{range_fits}
use Rattle.bitvec_call.proofs.range.span.Goals as goal

pub returns-clause-fits : goal.returns-clause-fits
returns-clause-fits g c words inside =
    let width = g.R.BitRegister.BITS in
    range_fits width words c.args.start c.args.count _ (omega (arith, g.met.R.BitRegister.width_at_least_8)) c.at_unchecked.ensures inside
