use Rattle.bitvec_stream.proofs.laws.row_is_read.Goals as goal
use Rattle.bitvec_stream.proofs.RowLemmas as rows

pub returns-clause-read : goal.returns-clause-read
returns-clause-read c = rows.row_read

pub returns-clause-written : goal.returns-clause-written
returns-clause-written c = rows.row_written
