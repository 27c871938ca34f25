use Rattle.std.proofs.Common.{arith}
use Rattle.freemap.specs.Map.{in_use}
use Rattle.freemap.proofs.SummaryLemmas.{lowest_here, none_at_all, none_more}
use Rattle.freemap.proofs.map.FreeMap.lowest_free.Goals as goal

pub loop-w-init : goal.loop-w-init
loop-w-init g c = λ b none. absurd (omega (arith, none))

pub loop-w-preserved : goal.loop-w-preserved
loop-w-preserved g c = none_more (in_use c.args.self.now) c.loop-w.w c.loop-w.invariant c.in_default.ensures

pub returns-in-Some : goal.returns-in-Some
returns-in-Some g c = lowest_here (in_use c.args.self.now) c.loop-w.w c.in-Some.block c.loop-w.invariant c.in-Some.ensures

pub returns : goal.returns
returns g c = none_at_all (in_use c.args.self.now) c.loop-w.w c.loop-w.invariant (omega (arith, c.loop-w-test.false, c.blocks-2.ensures.count, c.words_for-w-end.ensures))
