use Rattle.std.proofs.Common.{arith}
use Rattle.std.specs.Prelude.{None, Some}
use Rattle.freemap.specs.Map.{in_use}
use Rattle.freemap.proofs.SummaryLemmas.{none_free, through_word}
use Rattle.freemap.proofs.leveled.LeveledMap.alloc.Goals as goal

pub returns-in_err-word-clause-answer : goal.returns-in_err-word-clause-answer
returns-in_err-word-clause-answer g c =
    let map = c.args.self.now in
    rw c.from_residual.ensures (none_free (in_use map.blocks) (g.S.Level.marks map.full) map.words c.in_err-word.ensures)

pub free_in_word-requires : goal.free_in_word-requires
free_in_word-requires g c = (let there = c.in_ok-word.ensures.0.0 in omega (arith, there, c.args.self.now.words.words))

pub returns-in_err-at-clause-answer : goal.returns-in_err-at-clause-answer
returns-in_err-at-clause-answer g c =
    let map = c.args.self.now in
    rw c.from_residual-in_err-at.ensures (through_word (in_use map.blocks) (g.S.Level.marks map.full) map.words c.in_ok-word.word c.in_ok-word.ensures None c.in_err-at.ensures)

pub returns-clause-answer : goal.returns-clause-answer
returns-clause-answer g c =
    let map = c.args.self.now in
    through_word (in_use map.blocks) (g.S.Level.marks map.full) map.words c.in_ok-word.word c.in_ok-word.ensures (Some c.in_ok-at.at) c.in_ok-at.ensures
