use Rattle.std.proofs.Common.{length, sym, ap, ◌∙◌, arith, length-append}
use Rattle.bitvec_order.proofs.Ranges.{powers_push, progress}
use Rattle.bitvec_order.proofs.index.range.SelRangeDoubleEndedIterator.next_back.Goals as goal

pub returns-clause-steps : goal.returns-clause-steps
returns-clause-steps g c =
    sym c.self.view_is ∙ powers_push c.self.inside.positions c.next_back.new.self c.in_ok-last.last c.select.result c.in_ok-last.ensures.steps c.select.ensures.value

pub returns-clause-goes : goal.returns-clause-goes
returns-clause-goes g c = progress _ _ _ _ tt (omega (arith, simp length-append at (ap length (returns-clause-steps g c))))
