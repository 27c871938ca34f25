use Rattle.std.proofs.Common.{◌+◌, ◌/◌, ◌∙◌, ap}
use Rattle.freemap.specs.Map.{in_use}
use Rattle.freemap.proofs.LevelLemmas.{unsaid}
use Rattle.freemap.proofs.leveled.LeveledMap.over.Goals as goal

pub say_words-requires : goal.say_words-requires
say_words-requires g c = unsaid (in_use c.args.blocks) (g.S.Level.marks c.args.level) c.words_for-words.result c.requires (c.words_for-words.ensures ∙ ap (λ n. (n + 63) / 64) c.blocks-2.ensures.count)
