use Rattle.std.proofs.Common.{sym}
use Rattle.freemap.proofs.WordLemmas.{stored_long}
use Rattle.freemap.proofs.map.FreeMap.blocks.Goals as goal

pub returns-clause-count : goal.returns-clause-count
returns-clause-count g c = (let map = c.args.self.now in sym (stored_long g.O.BitAt.at_of map.blocks map.words.now))
