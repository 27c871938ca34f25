use Rattle.std.proofs.Common.{sym}
use Rattle.tests_span.proofs.callers.with_each_word.Goals as goal

pub returns-clause-called : goal.returns-clause-called
returns-clause-called g c = rw (sym c.domain.ensures.items) c.each.ensures.called
