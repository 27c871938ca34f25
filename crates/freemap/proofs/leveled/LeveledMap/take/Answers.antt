use Rattle.freemap.specs.Map.{in_use}
use Rattle.freemap.proofs.HistoryLemmas.{owned_more, handed_out}
use Rattle.freemap.proofs.leveled.LeveledMap.take.Goals as goal

pub returns-clause-handed : goal.returns-clause-handed
returns-clause-handed g c = handed_out (in_use c.args.self.now.blocks) (in_use c.mark.new.self.blocks) c.args.at c.args.count c.mark.ensures.becomes.used c.requires.0 c.mark.ensures.becomes.many

pub returns-clause-owned : goal.returns-clause-owned
returns-clause-owned g c = owned_more (in_use c.args.self.now.blocks) (in_use c.mark.new.self.blocks) c.args.at c.args.count c.mark.ensures.becomes.used c.requires
