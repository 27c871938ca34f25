use Rattle.std.proofs.Common.{arith}
use Rattle.bitvec_slice.proofs.FreeRunLemmas.{one_from_turned, zero_from_turned, digit_of-past}
use Rattle.bitvec_slice.proofs.slice.free_runs.low_run.Goals as goal

pub returns-in-Some-clause-ones : goal.returns-in-Some-clause-ones
returns-in-Some-clause-ones g c = λ j h. one_from_turned g.R.BitRegister.BITS c.args.rises (g.R.BitRegister.number c.args.word) (g.R.BitRegister.number c.not.result) j c.not.ensures.digits (omega (arith, h, c.in-Some.ensures.0)) (c.in-Some.ensures.2 j h)

pub returns-in-Some-clause-stop : goal.returns-in-Some-clause-stop
returns-in-Some-clause-stop g c = zero_from_turned g.R.BitRegister.BITS c.args.rises (g.R.BitRegister.number c.args.word) (g.R.BitRegister.number c.not.result) c.in-Some.i c.not.ensures.digits c.in-Some.ensures.0 c.in-Some.ensures.1

pub returns-in-None-clause-ones : goal.returns-in-None-clause-ones
returns-in-None-clause-ones g c = λ j h. one_from_turned g.R.BitRegister.BITS c.args.rises (g.R.BitRegister.number c.args.word) (g.R.BitRegister.number c.not.result) j c.not.ensures.digits (omega (arith, h, c.BITS.ensures)) (c.in-None.ensures j)

pub returns-in-None-clause-stop : goal.returns-in-None-clause-stop
returns-in-None-clause-stop g c = digit_of-past g.R.BitRegister.BITS c.args.rises (g.R.BitRegister.number c.args.word) c.BITS.result (omega (arith, c.BITS.ensures))
