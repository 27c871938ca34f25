use Rattle.std.proofs.Common.{arith}
use Rattle.freemap.proofs.WordLemmas.{stored_long}
use Rattle.freemap.proofs.map.FreeMap.free_in_word.Goals as goal

pub free_in_words-requires : goal.free_in_words-requires
free_in_words-requires g c = (let map = c.args.self.now in record { room = map.room; inside = omega (arith, c.requires, stored_long g.O.BitAt.at_of map.blocks map.words.now) })
