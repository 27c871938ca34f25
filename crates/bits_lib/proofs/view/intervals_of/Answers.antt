use Rattle.std.proofs.Common.{rules, ◌<◌, length, arith}
use Rattle.bitvec.specs.BitSpan.{span_of}
use Rattle.bits_lib.specs.Interval.{interval_span}
use Rattle.bits_lib.proofs.IntervalLemmas.{more_views, all_same}
use Rattle.bits_lib.proofs.view.intervals_of.Goals as goal

pub loop-i-preserved : goal.loop-i-preserved
loop-i-preserved g c =
    let inside : c.loop-i.i < length c.args.spans.now = search rules in
    more_views interval_span span_of c.loop-i.intervals c.args.spans.now c.loop-i.i _
    c.index-spans-i.result inside (search rules) c.loop-i.invariant

pub returns : goal.returns
returns g c =
    all_same interval_span span_of c.loop-i.intervals c.args.spans.now c.loop-i.i
    (omega (arith, c.loop-i-test.false)) c.loop-i.invariant
