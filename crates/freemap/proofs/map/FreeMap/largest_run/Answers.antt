use Rattle.std.proofs.Common.{◌≡◌, ◌+◌, ◌∙◌, max, subst, sym, arith}
use Rattle.freemap.specs.Map.{in_use}
use Rattle.freemap.proofs.RunLemmas.{IsMost, most_more, most_all, ord_max-is}
use Rattle.freemap.proofs.WordLemmas.{stored_long}
use Rattle.freemap.proofs.map.FreeMap.largest_run.Goals as goal

pub overflow_add-from : goal.overflow_add-from
overflow_add-from g c =
    let map = c.args.self.now in
    let run = c.in-Some.ensures.free in
    omega (arith, run.0, map.room, stored_long g.O.BitAt.at_of map.blocks map.words.now)

pub loop-at-preserved : goal.loop-at-preserved
loop-at-preserved g c =
    let map = c.args.self.now in
    let most = c.loop-at.most in
    let run = c.in-Some in
    let more = most_more (in_use map) c.loop-at.from most c.loop-at.invariant run.at run.count run.ensures in
    let is : max most run.count ≡ c.max-most.result = sym (c.max-most.ensures ∙ ord_max-is most run.count) in
    subst (λ n. IsMost (in_use map) (run.at + run.count) n) is more

pub returns : goal.returns
returns g c = most_all (in_use c.args.self.now) c.loop-at.from c.loop-at.most c.loop-at.invariant c.in_default.ensures
