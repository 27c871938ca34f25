use Rattle.std.proofs.Common.{sym, ◌∙◌, arith}
use Rattle.freemap.proofs.LevelLemmas.{filled_long}
use Rattle.freemap.proofs.SummaryLemmas.{one_set}
use Rattle.freemap.proofs.leveled.say_word.Goals as goal

pub is_word_full-requires : goal.is_word_full-requires
is_word_full-requires g c = omega (arith, c.requires.many, c.requires.inside)

pub returns-clause-said : goal.returns-clause-said
returns-clause-said g c =
    let marks = g.S.Level.marks in
    let set = one_set (marks c.args.full.now) (marks c.set_mark.new.self) c.args.w c.is_word_full.result c.set_mark.ensures.marked c.requires.inside in
    (λ on. c.is_word_full.ensures.0 (sym set.0 ∙ on), λ full. set.0 ∙ c.is_word_full.ensures.1 full)

pub returns-clause-beside : goal.returns-clause-beside
returns-clause-beside g c =
    let marks = g.S.Level.marks in
    let set = one_set (marks c.args.full.now) (marks c.set_mark.new.self) c.args.w c.is_word_full.result c.set_mark.ensures.marked c.requires.inside in
    set.1

pub returns-clause-many : goal.returns-clause-many
returns-clause-many g c =
    let marks = g.S.Level.marks in
    filled_long (marks c.args.full.now) (marks c.set_mark.new.self) c.args.w _ c.is_word_full.result c.set_mark.ensures.marked (omega arith) (omega (arith, c.requires.inside))
