use Rattle.std.proofs.Common.{arith}
use Rattle.freemap.specs.Map.{in_use}
use Rattle.freemap.proofs.StretchRuns.{none_first, none_next, none_past, none_at_all, none_left, run_here, run_rest}
use Rattle.freemap.proofs.WordLemmas.{stored_long}
use Rattle.freemap.proofs.leveled.LeveledMap.run_by_levels.Goals as goal

pub returns-in_err-first : goal.returns-in_err-first
returns-in_err-first g c =
    let used = in_use c.args.self.now.blocks in
    rw c.from_residual.ensures (none_at_all used c.args.count c.args.alignment c.requires.some c.in_err-first.ensures)

pub loop-end-init : goal.loop-end-init
loop-end-init g c = none_first (in_use c.args.self.now.blocks) c.args.count c.args.alignment c.requires.some c.in_ok-first.first c.in_ok-first.ensures

pub returns-in-Some-run_upto : goal.returns-in-Some-run_upto
returns-in-Some-run_upto g c = run_here (in_use c.args.self.now.blocks) c.args.count c.args.alignment c.loop-end.first c.loop-end.invariant c.in-Some-run_upto.at c.in-Some-run_upto.ensures

pub overflow_add-end : goal.overflow_add-end
overflow_add-end g c =
    let map = c.args.self.now.blocks in
    omega (arith, c.in-Some.ensures.1, map.room, stored_long g.O.BitAt.at_of map.blocks map.words.now)

pub returns-in_err-first-2 : goal.returns-in_err-first-2
returns-in_err-first-2 g c =
    let used = in_use c.args.self.now.blocks in
    let none = none_past used c.args.count c.args.alignment c.loop-end.first c.in-Some.end c.loop-end.invariant c.in_default-run_upto.ensures in
    rw c.from_residual-in_err-first-2.ensures (none_left used c.args.count c.args.alignment c.requires.some _ none c.in_err-first-2.ensures)

pub loop-end-preserved : goal.loop-end-preserved
loop-end-preserved g c =
    let used = in_use c.args.self.now.blocks in
    let none = none_past used c.args.count c.args.alignment c.loop-end.first c.in-Some.end c.loop-end.invariant c.in_default-run_upto.ensures in
    none_next used c.args.count c.args.alignment c.requires.some _ c.in_ok-first-2.first none c.in_ok-first-2.ensures

pub loop-end-smaller : goal.loop-end-smaller
loop-end-smaller g c =
    let later = c.in_ok-first-2.ensures.0.0 in
    let there = c.in_ok-first-2.ensures.0.1.0 in
    omega (arith, later, there, c.in-Some.ensures.0, c.requires.some)

pub returns : goal.returns
returns g c = run_rest (in_use c.args.self.now.blocks) c.args.count c.args.alignment c.loop-end.first c.loop-end.invariant c.run_from.result c.run_from.ensures
