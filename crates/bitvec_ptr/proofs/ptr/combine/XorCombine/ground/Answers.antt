use Rattle.std.proofs.Common.{ap, ◌∙◌}
use Rattle.bitvec_mem.specs.Digit.{digit}
use Rattle.bitvec_ptr.proofs.CombineLemmas.{xor_none}
use Rattle.bitvec_ptr.proofs.ptr.combine.XorCombine.ground.Goals as goal

pub returns : goal.returns
returns g c =
    let R = g.R.BitRegister in
    λ p h. xor_none (R.number c.ZERO.result) p (digit (R.number c.args._old) p) (ap R.number c.ZERO.ensures ∙ g.met.R.BitRegister.zero_is_0)
