use Rattle.std.proofs.Common.{◌++◌, take, drop}
use Rattle.bitvec_span.specs.BitSpan.{list_by, Becomes}
use Rattle.bitvec_span.proofs.ptr.span.BitSpan.write_bits.Given as goal

-- the first i bits of the span are the list's
abbrev pub invariant-loop-i : goal.invariant-loop-i
invariant-loop-i g l = Becomes l.self g.O.BitAt.at_of l.fn.memory l.memory (take l.i l.bits ++ drop l.i (list_by l.self g.O.BitAt.at_of l.fn.memory))
