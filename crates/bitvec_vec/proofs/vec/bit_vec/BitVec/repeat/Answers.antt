use Rattle.std.proofs.Common.{◌∙◌, arith}
use Rattle.bitvec_vec.specs.BitVec.{vec_bits}
use Rattle.bitvec_vec.proofs.GrowthLemmas.{repeated}
use Rattle.bitvec_vec.proofs.VecLemmas.{on_err}
use Rattle.bitvec_vec.proofs.vec.bit_vec.BitVec.repeat.Goals as goal

pub returns-in_err-resize-clause-full : goal.returns-in_err-resize-clause-full
returns-in_err-resize-clause-full g c = on_err c.from_residual.result (omega (arith, c.in_err-resize.ensures.full))

pub returns-clause-bits : goal.returns-clause-bits
returns-clause-bits g c = c.in_ok-resize.ensures.bits ∙ repeated (vec_bits c.new-vec.result) c.args.len c.args.bit c.new-vec.ensures.bits
