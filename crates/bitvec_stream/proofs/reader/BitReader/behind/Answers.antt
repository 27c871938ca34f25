use Rattle.std.proofs.Common.{inl, inr}
use Rattle.bitvec_stream.proofs.reader.BitReader.behind.Goals as goal

pub filled-requires-clause-way : goal.filled-requires-clause-way
filled-requires-clause-way g c =
    elim c.in-Rises.is [
      | inl e ↦ inl (c.direction_of.ensures.rises.0 e)
      | inr e ↦ inr (c.direction_of.ensures.falls.0 e)
    ]
