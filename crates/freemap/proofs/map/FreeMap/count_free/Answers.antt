use Rattle.std.proofs.Common.{◌∙◌, ap}
use Rattle.bitvec_slice.specs.Bits.{zeros_in}
use Rattle.freemap.proofs.map.FreeMap.count_free.Goals as goal

pub returns : goal.returns
returns g c = c.count_zeros.ensures ∙ ap zeros_in c.bits.ensures
