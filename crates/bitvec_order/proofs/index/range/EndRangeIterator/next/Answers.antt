use Rattle.std.proofs.Common.{length, ap, arith}
use Rattle.bitvec_order.proofs.Ranges.{range_first, progress}
use Rattle.bitvec_order.proofs.index.range.EndRangeIterator.next.Goals as goal

pub returns-clause-steps : goal.returns-clause-steps
returns-clause-steps g c = rw (← c.self.view_is, c.new_unchecked-first.ensures) (range_first _ _ (omega arith))

pub returns-clause-goes : goal.returns-clause-goes
returns-clause-goes g c = progress _ _ _ _ tt (omega (arith, ap length (returns-clause-steps g c)))
