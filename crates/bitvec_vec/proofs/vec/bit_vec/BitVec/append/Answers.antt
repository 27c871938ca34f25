use Rattle.std.proofs.Common.{◌∙◌, ◌++◌, Bool, List, ap}
use Rattle.bitvec_vec.specs.BitVec.{vec_bits}
use Rattle.bitvec_vec.proofs.vec.bit_vec.BitVec.append.Goals as goal

pub returns-clause-bits : goal.returns-clause-bits
returns-clause-bits g c = c.in_ok-extend_from_bitslice.ensures.bits ∙ ap (λ (ys : List Bool). vec_bits c.args.self.now ++ ys) c.as_bitslice.ensures.bits
