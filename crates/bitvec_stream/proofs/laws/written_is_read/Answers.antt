use Rattle.bitvec_stream.proofs.laws.written_is_read.Goals as goal
use Rattle.bitvec_stream.proofs.ItemLemmas as items

pub returns : goal.returns
returns c = items.written_is_read
