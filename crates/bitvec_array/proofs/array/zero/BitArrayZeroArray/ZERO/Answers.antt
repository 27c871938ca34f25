use Rattle.bitvec_array.proofs.SameArray.{same-array}
use Rattle.bitvec_array.specs.BitArray.{zero_array}
use Rattle.bitvec_array.proofs.array.zero.BitArrayZeroArray.ZERO.Goals as goal

pub returns : goal.returns
returns g c = same-array (zero_array {O = g.row.O.Denot} {n = g.row.N} {a = g.O.OrderCandidate} {b = g.O.BitAt}) _
