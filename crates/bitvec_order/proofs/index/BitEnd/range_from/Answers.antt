use Rattle.std.proofs.Common.{◌+◌, arith}
use Rattle.bitvec_order.proofs.Ranges.{length-range}
use Rattle.bitvec_order.proofs.index.BitEnd.range_from.Goals as goal

pub returns-clause-count : goal.returns-clause-count
returns-clause-count g c = omega (arith, length-range c.into_inner.result (c.BITS.result + 1))

pub returns-clause-short : goal.returns-clause-short
returns-clause-short g c = omega (arith, length-range c.into_inner.result (c.BITS.result + 1), g.met.R.BitRegister.width_at_most_128)
