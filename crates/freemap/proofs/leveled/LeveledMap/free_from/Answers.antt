use Rattle.std.proofs.Common.{arith}
use Rattle.freemap.specs.Map.{in_use}
use Rattle.freemap.proofs.SummaryLemmas.{none_after, after_word}
use Rattle.freemap.proofs.leveled.LeveledMap.free_from.Goals as goal

pub returns-in_err-word : goal.returns-in_err-word
returns-in_err-word g c =
    let map = c.args.self.now in
    rw c.from_residual.ensures (λ b both. none_after (in_use map.blocks) (g.S.Level.marks map.full) map.words c.args.block c.in_default.ensures (λ k later free. c.in_err-word.ensures k (later, free)) b both.0 both.1)

pub free_in_word-requires : goal.free_in_word-requires
free_in_word-requires g c = (let there = c.in_ok-word.ensures.0.1.0 in omega (arith, there, c.args.self.now.words.words))

pub returns : goal.returns
returns g c =
    let map = c.args.self.now in
    after_word (in_use map.blocks) (g.S.Level.marks map.full) map.words c.in_ok-word.word c.args.block c.in_default.ensures c.in_ok-word.ensures c.free_in_word.result c.free_in_word.ensures
