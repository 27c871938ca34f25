-- answered here, so that a wrong body is refused at once
use Rattle.std.proofs.Common.{rules}
use Rattle.bitvec_span.proofs.ptr.span.BitSpan.assemble.Goals as goal

pub returns-in-Some-body-clause-names : goal.returns-in-Some-body-clause-names
returns-in-Some-body-clause-names g c = search rules

pub returns-in-Some-body-clause-loans : goal.returns-in-Some-body-clause-loans
returns-in-Some-body-clause-loans g c = search rules
