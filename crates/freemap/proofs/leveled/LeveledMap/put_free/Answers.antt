use Rattle.std.proofs.Common.{◌/◌, ◌<◌, length, true≢false, refl, sym, ◌∙◌, arith}
use Rattle.freemap.specs.Map.{in_use}
use Rattle.freemap.proofs.LevelLemmas.{filled_long, not_full_off, says_not_full, says_of_freed}
use Rattle.freemap.proofs.SummaryLemmas.{one_set, one_changed}
use Rattle.freemap.proofs.leveled.LeveledMap.put_free.Goals as goal

pub is_word_full-was_full-requires : goal.is_word_full-was_full-requires
is_word_full-was_full-requires g c = omega (arith, c.requires)

pub set_mark-requires : goal.set_mark-requires
set_mark-requires g c = omega (arith, c.requires, c.args.self.now.words.words)

pub invariant_of-self : goal.invariant_of-self
invariant_of-self g c =
    let map = c.args.self.now in
    let old = in_use map.blocks in
    let new = in_use c.set.new.self in
    let marks = g.S.Level.marks map.full in
    let full = g.S.Level.marks c.set_mark.new.self in
    let w = c.args.at / 64 in
    let set = one_set old new c.args.at _ c.set.ensures.used c.requires in
    let there : w < length marks = omega (arith, c.requires, map.words.words) in
    let said = one_set marks full w _ c.set_mark.ensures.marked there in
    let long = filled_long marks full w _ _ c.set_mark.ensures.marked (omega arith) (omega (arith, there)) in
    let says = says_not_full new full w (λ on. true≢false (sym on ∙ said.0)) (not_full_off new c.args.at set.0 (omega (arith, c.requires, c.set.ensures.many))) in
    record {
      words = one_changed old new marks full c.args.at map.words c.set.ensures.many set.1 c.requires long says said.1;
    }

pub invariant_of-self-else-was_full : goal.invariant_of-self-else-was_full
invariant_of-self-else-was_full g c =
    let map = c.args.self.now in
    let old = in_use map.blocks in
    let new = in_use c.set.new.self in
    let marks = g.S.Level.marks map.full in
    let set = one_set old new c.args.at _ c.set.ensures.used c.requires in
    let says = says_of_freed old new marks c.args.at map.words c.set.ensures.many set.0 c.requires (λ full. true≢false (sym (c.is_word_full-was_full.ensures.1 full) ∙ c.if-was_full.false)) in
    record {
      words = one_changed old new marks marks c.args.at map.words c.set.ensures.many set.1 c.requires refl says (λ j apart. refl);
    }
