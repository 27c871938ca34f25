use Rattle.std.proofs.Common.{take, map}
use Rattle.bitvec_span.specs.BitSpan.{span_of}
use Rattle.bitvec.specs.Commands.{reply_number}
use Rattle.bitvec.specs.Run.{IsRun}
use Rattle.bitvec.proofs.run.run.Given as goal

-- the requests so far are run
abbrev pub invariant-loop-n : goal.invariant-loop-n
invariant-loop-n g l =
    let number = g.R.BitRegister.number in
    IsRun number g.R.BitRegister.BITS g.O.BitAt.at_of span_of l.spans (map number l.fn.memory) (take l.n l.requests) (map (reply_number number) (take l.n l.replies)) (map number l.memory)
