use Rattle.std.proofs.Common.{ap, ◌∙◌}
use Rattle.bitvec_mem.specs.Digit.{digit}
use Rattle.bitvec_ptr.proofs.CombineLemmas.{or_none}
use Rattle.bitvec_ptr.proofs.ptr.combine.OrCombine.ground.Goals as goal

pub returns : goal.returns
returns g c =
    let R = g.R.BitRegister in
    λ p h. or_none (R.number c.ZERO.result) p (digit (R.number c.args._old) p) (ap R.number c.ZERO.ensures ∙ g.met.R.BitRegister.zero_is_0)
