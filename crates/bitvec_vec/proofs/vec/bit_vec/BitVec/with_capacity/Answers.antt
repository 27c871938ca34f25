use Rattle.std.proofs.Common.{◌∙◌, Bool, List, length, ap, arith}
use Rattle.bitvec_vec.proofs.VecLemmas.{on_err}
use Rattle.bitvec_vec.proofs.vec.bit_vec.BitVec.with_capacity.Goals as goal

pub returns-in_err-reserve-clause-full : goal.returns-in_err-reserve-clause-full
returns-in_err-reserve-clause-full g c =
    on_err c.from_residual.result (omega (arith, c.in_err-reserve.ensures.full, ap (λ (xs : List Bool). length xs) c.new-vec.ensures.bits))

pub returns-clause-bits : goal.returns-clause-bits
returns-clause-bits g c = c.reserve.ensures.bits ∙ c.new-vec.ensures.bits

pub returns-clause-capacity : goal.returns-clause-capacity
returns-clause-capacity g c = omega (arith, c.in_ok-reserve.ensures.ok)
