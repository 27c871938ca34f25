use Rattle.std.proofs.Common.{arith}
use Rattle.std.proofs.lemmas.Bool.Decides.{nat_tests}
use Rattle.freemap.proofs.WordLemmas.{stored_long}
use Rattle.freemap.proofs.map.FreeMap.has_blocks.Goals as goal

pub returns-then-at-self : goal.returns-then-at-self
returns-then-at-self g c =
    let map = c.args.self.now in
    let long = stored_long g.O.BitAt.at_of map.blocks map.words.now in
    let room = c.if-at-self.true in
    grind (arith, nat_tests, long, room)

pub returns-else-at-self : goal.returns-else-at-self
returns-else-at-self g c =
    let map = c.args.self.now in
    let long = stored_long g.O.BitAt.at_of map.blocks map.words.now in
    let past = c.if-at-self.false in
    grind (arith, nat_tests, long, past)
