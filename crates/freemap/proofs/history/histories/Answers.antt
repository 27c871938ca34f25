use Rattle.freemap.proofs.HistoryLemmas.{histories_keep_owners}
use Rattle.freemap.proofs.history.histories.Goals as goal

pub returns : goal.returns
returns c = histories_keep_owners
