use Rattle.std.proofs.Common.{length, ap, arith, length-append}
use Rattle.bitvec_order.proofs.Ranges.{range_last, progress}
use Rattle.bitvec_order.proofs.index.range.EndRangeDoubleEndedIterator.next_back.Goals as goal

pub returns-clause-steps : goal.returns-clause-steps
returns-clause-steps g c = rw (← c.self.view_is, c.new_unchecked.ensures) (range_last _ _ (omega arith))

pub returns-clause-goes : goal.returns-clause-goes
returns-clause-goes g c = progress _ _ _ _ tt (omega (arith, simp length-append at (ap length (returns-clause-steps g c))))
