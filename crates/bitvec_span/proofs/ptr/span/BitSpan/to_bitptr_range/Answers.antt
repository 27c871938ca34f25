-- answered here, so that a wrong body is refused at once
use Rattle.std.proofs.Common.{rules}
use Rattle.bitvec_span.proofs.ptr.span.BitSpan.to_bitptr_range.Goals as goal

pub returns-clause-end : goal.returns-clause-end
returns-clause-end g c = search rules

pub returns-clause-places : goal.returns-clause-places
returns-clause-places g c = search rules
