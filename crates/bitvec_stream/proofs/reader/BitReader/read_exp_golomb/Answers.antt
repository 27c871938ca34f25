use Rattle.std.proofs.Common.{inr}
use Rattle.bitvec_stream.proofs.reader.BitReader.read_exp_golomb.Goals as goal

pub pass_kept-requires-clause-way : goal.pass_kept-requires-clause-way
pass_kept-requires-clause-way g c = inr c.in-Some.ensures.0

pub pass_into-requires-clause-way : goal.pass_into-requires-clause-way
pass_into-requires-clause-way g c = inr c.in-Some-joined_code.ensures.0
