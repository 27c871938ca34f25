use Rattle.std.proofs.Common.{Bool, List, subst}
use Rattle.bitvec_slice.specs.Bits.{AreFree}
use Rattle.freemap.specs.Blocks.{IsLowest}
use Rattle.freemap.proofs.map.FreeMap.first_run.Goals as goal

pub returns : goal.returns
returns g c = subst (λ (xs : List Bool). IsLowest (λ at. AreFree xs at c.args.count) c.find_zeros.result) c.bits.ensures c.find_zeros.ensures
