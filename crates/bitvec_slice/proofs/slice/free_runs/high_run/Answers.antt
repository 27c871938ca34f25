use Rattle.std.proofs.Common.{◌≡◌, ap, ◌∙◌, arith}
use Rattle.bitvec_slice.specs.FreeRuns.{digit_of}
use Rattle.bitvec_slice.proofs.FreeRunLemmas.{one_from_turned, zero_from_turned}
use Rattle.bitvec_slice.proofs.slice.free_runs.high_run.Goals as goal

pub returns-in-Some-clause-ones : goal.returns-in-Some-clause-ones
returns-in-Some-clause-ones g c = λ j h k. one_from_turned g.R.BitRegister.BITS c.args.rises (g.R.BitRegister.number c.args.word) (g.R.BitRegister.number c.not.result) j c.not.ensures.digits k (c.in-Some.ensures.2 j (omega (arith, h, k, c.in-Some.ensures.0, c.MASK.ensures, g.met.R.BitRegister.mask_is_greatest_index)))

pub returns-in-Some-clause-stop : goal.returns-in-Some-clause-stop
returns-in-Some-clause-stop g c = λ j h.
    let same : j ≡ c.in-Some.i = omega (arith, h, c.in-Some.ensures.0, c.MASK.ensures, g.met.R.BitRegister.mask_is_greatest_index) in
    ap (digit_of g.R.BitRegister.BITS c.args.rises (g.R.BitRegister.number c.args.word)) same ∙ zero_from_turned g.R.BitRegister.BITS c.args.rises (g.R.BitRegister.number c.args.word) (g.R.BitRegister.number c.not.result) c.in-Some.i c.not.ensures.digits c.in-Some.ensures.0 c.in-Some.ensures.1

pub returns-in-None-clause-ones : goal.returns-in-None-clause-ones
returns-in-None-clause-ones g c = λ j h k. one_from_turned g.R.BitRegister.BITS c.args.rises (g.R.BitRegister.number c.args.word) (g.R.BitRegister.number c.not.result) j c.not.ensures.digits k (c.in-None.ensures j)

pub returns-in-None-clause-stop : goal.returns-in-None-clause-stop
returns-in-None-clause-stop g c = λ j h. absurd (omega (arith, h, c.BITS.ensures))
