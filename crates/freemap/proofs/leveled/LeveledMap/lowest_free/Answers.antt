use Rattle.std.proofs.Common.{arith}
use Rattle.freemap.specs.Map.{in_use}
use Rattle.freemap.proofs.SummaryLemmas.{none_free, through_word}
use Rattle.freemap.proofs.leveled.LeveledMap.lowest_free.Goals as goal

pub returns-in_err-word : goal.returns-in_err-word
returns-in_err-word g c =
    let map = c.args.self.now in
    rw c.from_residual.ensures (none_free (in_use map.blocks) (g.S.Level.marks map.full) map.words c.in_err-word.ensures)

pub free_in_word-requires : goal.free_in_word-requires
free_in_word-requires g c = (let there = c.in_ok-word.ensures.0.0 in omega (arith, there, c.args.self.now.words.words))

pub returns : goal.returns
returns g c =
    let map = c.args.self.now in
    through_word (in_use map.blocks) (g.S.Level.marks map.full) map.words c.in_ok-word.word c.in_ok-word.ensures c.free_in_word.result c.free_in_word.ensures
