use Rattle.bitvec.specs.Span.{front_span}
use Rattle.bitvec_slice.proofs.SlicePartLemmas.{list_of-zeros}
use Rattle.bitvec_array.specs.Array.{array_len}
use Rattle.bitvec_array.proofs.array.bit_array.BitArray.zeros.Goals as goal

pub returns : goal.returns
returns g c = list_of-zeros 64 g.O.BitAt.at_of (front_span (array_len g.row.N)) g.row.N
