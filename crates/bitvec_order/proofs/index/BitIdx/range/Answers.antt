use Rattle.std.proofs.Common.{arith}
use Rattle.bitvec_order.proofs.Ranges.{length-range}
use Rattle.bitvec_order.proofs.index.BitIdx.range.Goals as goal

pub returns-clause-count : goal.returns-clause-count
returns-clause-count g c = omega (arith, length-range c.into_inner.result c.into_inner-2.result)

pub returns-clause-short : goal.returns-clause-short
returns-clause-short g c = omega (arith, length-range c.into_inner.result c.into_inner-2.result, g.met.R.BitRegister.width_at_most_128)
