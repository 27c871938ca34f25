use Rattle.freemap.specs.Map.{in_use}
use Rattle.freemap.proofs.HistoryLemmas.{owned_more, handed_out}
use Rattle.freemap.proofs.leveled.LeveledMap.take_one.Goals as goal

pub returns-clause-handed : goal.returns-clause-handed
returns-clause-handed g c =
    handed_out (in_use c.args.self.now.blocks) (in_use c.put_in_use.new.self.blocks) c.args.at 1 c.put_in_use.ensures.becomes.used c.requires.free.0 c.put_in_use.ensures.becomes.many

pub returns-clause-owned : goal.returns-clause-owned
returns-clause-owned g c = owned_more (in_use c.args.self.now.blocks) (in_use c.put_in_use.new.self.blocks) c.args.at 1 c.put_in_use.ensures.becomes.used c.requires.free
