use Rattle.std.proofs.Common.{◌+◌, arith}
use Rattle.bitvec_order.proofs.Steps.{rest_is}
use Rattle.bitvec_order.proofs.index.BitIdx.next.Goals as goal

pub returns-then-self-MASK-clause-moved : goal.returns-then-self-MASK-clause-moved
returns-then-self-MASK-clause-moved g c =
    rest_is (c.args.self + 1) g.R.BitRegister.BITS 1 _ (omega arith) (omega (arith, g.met.R.BitRegister.mask_is_greatest_index))

pub returns-else-self-MASK-clause-moved : goal.returns-else-self-MASK-clause-moved
returns-else-self-MASK-clause-moved g c =
    rest_is (c.args.self + 1) g.R.BitRegister.BITS 0 c.new_unchecked.result (omega (arith, g.met.R.BitRegister.mask_is_greatest_index)) (omega arith)
