use Rattle.std.proofs.Common.{not, map}
use Rattle.bitvec_span.specs.BitSpan.{span_of}
use Rattle.bitvec_span.proofs.MappedLemmas.{Maps}
use Rattle.bitvec_span.proofs.ptr.span.BitSpan.invert_between.Given as goal

-- the words behind the first and before word k are turned over
abbrev pub invariant-loop-k : goal.invariant-loop-k
invariant-loop-k g l =
    let number = g.R.BitRegister.number in
    Maps not g.R.BitRegister.BITS g.O.BitAt.at_of (span_of l.fn.self) (map number l.fn.memory) 1 l.k (map number l.memory)
