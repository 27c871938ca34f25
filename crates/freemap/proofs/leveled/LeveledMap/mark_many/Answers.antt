use Rattle.std.proofs.Common.{◌+◌, ◌-◌, ◌/◌, ◌≤◌, length, refl, arith}
use Rattle.freemap.specs.Map.{in_use}
use Rattle.freemap.proofs.SummaryLemmas.{changed_beside, kept_beside, set_within, inner_word}
use Rattle.freemap.proofs.WordLemmas.{stored_long}
use Rattle.freemap.proofs.leveled.LeveledMap.mark_many.Goals as goal

pub overflow_add-at : goal.overflow_add-at
overflow_add-at g c = (let map = c.args.self.now.blocks in omega (arith, c.requires, map.room, stored_long g.O.BitAt.at_of map.blocks map.words.now))

pub refresh-requires : goal.refresh-requires
refresh-requires g c =
    let map = c.args.self.now in
    let at = c.args.at in
    let count = c.args.count in
    let old = in_use map.blocks in
    let new = in_use c.mark.new.self in
    let kept = kept_beside old new at (at + count) c.args.used c.mark.ensures.used (omega arith) c.requires in
    let set = set_within old new at (at + count) c.args.used c.mark.ensures.used (omega arith) c.requires in
    record {
      rest = changed_beside old new (g.S.Level.marks map.full) at (at + count) _ _ map.words c.mark.ensures.many kept refl (omega (arith, c.words_for-to.ensures)) (omega (arith, c.words_for-to.ensures, map.words.words, c.requires));
      inner = λ w later upto. inner_word new at (at + count) c.args.used set (omega (arith, c.requires, c.mark.ensures.many)) w (omega (arith, later)) (omega (arith, upto, c.words_for-to.ensures));
    }
