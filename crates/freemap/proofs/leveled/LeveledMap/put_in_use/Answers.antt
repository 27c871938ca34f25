use Rattle.std.proofs.Common.{◌≡◌, ◌+◌, ◌/◌, ◌<◌, length, true, true≢false, refl, sym, subst, ◌∙◌, arith}
use Rattle.bitvec.specs.Span.{with_filled}
use Rattle.freemap.specs.Map.{in_use}
use Rattle.freemap.proofs.LevelLemmas.{filled_long, says_full, says_of_taken}
use Rattle.freemap.proofs.SummaryLemmas.{one_set, one_changed}
use Rattle.freemap.proofs.leveled.LeveledMap.put_in_use.Goals as goal

pub set_mark-requires : goal.set_mark-requires
set_mark-requires g c = omega (arith, c.requires.inside, c.requires.word, c.args.self.now.words.words)

pub invariant_of-self : goal.invariant_of-self
invariant_of-self g c =
    let map = c.args.self.now in
    let old = in_use map.blocks in
    let new = in_use c.put_in_use.new.self in
    let marks = g.S.Level.marks map.full in
    let full = g.S.Level.marks c.set_mark.new.self in
    let w = c.args.at / 64 in
    let set = one_set old new c.args.at _ c.put_in_use.ensures.becomes.used c.requires.inside in
    let there : w < length marks = omega (arith, c.requires.inside, map.words.words) in
    let marked = subst (λ n. full ≡ with_filled marks n (n + 1) true) c.requires.word c.set_mark.ensures.marked in
    let said = one_set marks full w _ marked there in
    let long = filled_long marks full w _ _ marked (omega arith) (omega (arith, there)) in
    record {
      words = one_changed old new marks full c.args.at map.words c.put_in_use.ensures.becomes.many set.1 c.requires.inside long (says_full new full w said.0 (c.put_in_use.ensures.full.0 c.if-put_in_use.true)) said.1;
    }

pub invariant_of-self-else-put_in_use : goal.invariant_of-self-else-put_in_use
invariant_of-self-else-put_in_use g c =
    let map = c.args.self.now in
    let old = in_use map.blocks in
    let new = in_use c.put_in_use.new.self in
    let marks = g.S.Level.marks map.full in
    let set = one_set old new c.args.at _ c.put_in_use.ensures.becomes.used c.requires.inside in
    let says = says_of_taken old new marks c.args.at map.words c.put_in_use.ensures.becomes.many set.1 set.0 c.requires.inside (λ full. true≢false (sym (c.put_in_use.ensures.full.1 full) ∙ c.if-put_in_use.false)) in
    record {
      words = one_changed old new marks marks c.args.at map.words c.put_in_use.ensures.becomes.many set.1 c.requires.inside refl says (λ j apart. refl);
    }
