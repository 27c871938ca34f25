use Rattle.std.proofs.Common.{◌+◌, ◌-◌, arith}
use Rattle.bitvec_order.proofs.Steps.{rest_is}
use Rattle.bitvec_order.proofs.index.BitIdx.prev.Goals as goal

pub returns-then-self-eq0-clause-moved : goal.returns-then-self-eq0-clause-moved
returns-then-self-eq0-clause-moved g c =
    rest_is (c.args.self + g.R.BitRegister.BITS - 1) g.R.BitRegister.BITS 0 c.MAX.result (omega arith) (omega arith)

pub returns-else-self-eq0-clause-moved : goal.returns-else-self-eq0-clause-moved
returns-else-self-eq0-clause-moved g c =
    rest_is (c.args.self + g.R.BitRegister.BITS - 1) g.R.BitRegister.BITS 1 c.new_unchecked.result (omega arith) (omega arith)
