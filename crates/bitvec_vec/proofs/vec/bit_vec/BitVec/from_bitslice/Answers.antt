use Rattle.std.proofs.Common.{◌∙◌, ◌++◌, Bool, List, length, ap, arith}
use Rattle.bitvec_slice.specs.BitSlice.{slice_bits}
use Rattle.bitvec_vec.proofs.VecLemmas.{on_err}
use Rattle.bitvec_vec.proofs.vec.bit_vec.BitVec.from_bitslice.Goals as goal

pub returns-in_err-extend_from_bitslice-clause-full : goal.returns-in_err-extend_from_bitslice-clause-full
returns-in_err-extend_from_bitslice-clause-full g c =
    on_err c.from_residual.result (omega (arith, c.in_err-extend_from_bitslice.ensures.full, ap (λ (xs : List Bool). length xs) c.new-vec.ensures.bits))

pub returns-clause-bits : goal.returns-clause-bits
returns-clause-bits g c = c.in_ok-extend_from_bitslice.ensures.bits ∙ ap (λ (xs : List Bool). xs ++ slice_bits c.args.slice) c.new-vec.ensures.bits
