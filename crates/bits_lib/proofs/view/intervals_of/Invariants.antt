use Rattle.bitvec.specs.BitSpan.{span_of}
use Rattle.bits_lib.specs.Interval.{interval_span}
use Rattle.bits_lib.proofs.IntervalLemmas.{HaveSameSpans}
use Rattle.bits_lib.proofs.view.intervals_of.Given as goal

-- the intervals before number i have the numbers of the spans, and there are as many
abbrev pub invariant-loop-i : goal.invariant-loop-i
invariant-loop-i g l = HaveSameSpans interval_span span_of l.intervals l.fn.spans l.i
