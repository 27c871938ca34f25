use Rattle.std.proofs.Common.{◌∙◌, arith}
use Rattle.freemap.specs.Map.{in_use}
use Rattle.freemap.proofs.SummaryLemmas.{said_first, said_all}
use Rattle.freemap.proofs.leveled.say_words.Goals as goal

pub say_word-requires : goal.say_word-requires
say_word-requires g c = (let was = c.loop-w.invariant.0 in record { many = was.words; inside = omega (arith, was.inside, c.loop-w-test.true) })

pub loop-w-preserved : goal.loop-w-preserved
loop-w-preserved g c =
    let said = c.say_word.ensures in
    (said_first (in_use c.args.map.now) (g.S.Level.marks c.loop-w.full) (g.S.Level.marks c.say_word.new.full) c.loop-w.w said.many said.said said.beside c.args.words c.loop-w.invariant.0, said.lent ∙ c.loop-w.invariant.1)

pub returns-clause-summary : goal.returns-clause-summary
returns-clause-summary g c = said_all (in_use c.args.map.now) (g.S.Level.marks c.loop-w.full) c.loop-w.w c.args.words c.loop-w.invariant.0 c.loop-w-test.false
