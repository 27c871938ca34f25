use Rattle.freemap.specs.Map.{in_use}
use Rattle.freemap.proofs.HistoryLemmas.{owned_less, taken_back}
use Rattle.freemap.proofs.leveled.LeveledMap.free.Goals as goal

pub returns-clause-owned : goal.returns-clause-owned
returns-clause-owned g c = owned_less (in_use c.args.self.now.blocks) (in_use c.mark.new.self.blocks) c.args.at c.args.count c.mark.ensures.becomes.used c.requires.0

pub returns-clause-back : goal.returns-clause-back
returns-clause-back g c = taken_back (in_use c.args.self.now.blocks) (in_use c.mark.new.self.blocks) c.args.at c.args.count c.mark.ensures.becomes.used c.requires.0 c.mark.ensures.becomes.many
