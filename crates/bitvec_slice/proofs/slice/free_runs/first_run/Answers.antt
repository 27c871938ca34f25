use Rattle.std.proofs.Common.{arith}
use Rattle.bitvec_slice.specs.FreeRuns.{digit_of}
use Rattle.bitvec_slice.proofs.FreeRunLemmas.{first_run-early, first_run-in_word, first_run-none}
use Rattle.bitvec_slice.proofs.slice.free_runs.first_run.Goals as goal

pub returns-then-before-low_run : goal.returns-then-before-low_run
returns-then-before-low_run g c =
    let test = digit_of g.R.BitRegister.BITS c.args.rises (g.R.BitRegister.number c.args.word) in
    (omega (arith, g.met.R.BitRegister.width_at_least_8), first_run-early c.args.before c.low_run.result c.args.count test (omega (arith, c.if-before-low_run.true)) c.low_run.ensures.ones)

pub returns-in-Some : goal.returns-in-Some
returns-in-Some g c =
    let bits = g.R.BitRegister.BITS in
    let number = g.R.BitRegister.number in
    let test = digit_of bits c.args.rises (number c.args.word) in
    let starts = digit_of bits c.args.rises (number c.starts_in.result) in
    (omega (arith, c.in-Some.ensures.0), first_run-in_word c.args.before c.low_run.result c.args.count test starts (omega (arith, c.if-before-low_run.false)) c.low_run.ensures.stop c.starts_in.ensures c.in-Some.i c.in-Some.ensures.1 c.in-Some.ensures.2)

pub returns-in-None : goal.returns-in-None
returns-in-None g c =
    let bits = g.R.BitRegister.BITS in
    let number = g.R.BitRegister.number in
    let test = digit_of bits c.args.rises (number c.args.word) in
    let starts = digit_of bits c.args.rises (number c.starts_in.result) in
    first_run-none c.args.before c.low_run.result c.args.count test starts (omega (arith, c.if-before-low_run.false)) c.low_run.ensures.stop c.starts_in.ensures c.in-None.ensures
