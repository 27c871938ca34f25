use Rattle.std.proofs.Common.{ap, ◌∙◌}
use Rattle.bitvec_mem.specs.Digit.{digit}
use Rattle.bitvec_ptr.proofs.CombineLemmas.{with_all}
use Rattle.bitvec_ptr.proofs.ptr.combine.AndCombine.ground.Goals as goal

pub returns : goal.returns
returns g c =
    let R = g.R.BitRegister in
    λ p h. with_all R.BITS (R.number c.ALL.result) p (digit (R.number c.args._old) p)
    (ap R.number c.ALL.ensures ∙ g.met.R.BitRegister.all_is_greatest) h
