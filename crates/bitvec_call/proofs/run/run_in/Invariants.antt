use Rattle.std.proofs.Common.{take, map}
use Rattle.bitvec_call.specs.Plain.{IsPlainRun}
use Rattle.bitvec_call.proofs.run.run_in.Given as goal

-- the requests so far are run
abbrev pub invariant-loop-n : goal.invariant-loop-n
invariant-loop-n g l =
    let number = g.R.BitRegister.number in
    IsPlainRun g.R.BitRegister.BITS g.O.BitAt.at_of l.spans (map number l.fn.memory) (take l.n l.requests) (take l.n l.replies) (map number l.memory)
