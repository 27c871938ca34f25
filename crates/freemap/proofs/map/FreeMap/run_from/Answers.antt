use Rattle.std.proofs.Common.{Bool, List, subst}
use Rattle.bitvec_slice.specs.Patterns.{AreFreeFrom}
use Rattle.freemap.specs.Blocks.{IsLowest}
use Rattle.freemap.proofs.map.FreeMap.run_from.Goals as goal

pub returns : goal.returns
returns g c = subst (λ (xs : List Bool). IsLowest (AreFreeFrom xs c.args.start c.args.count c.args.alignment) c.find_zeros_from.result) c.bits.ensures c.find_zeros_from.ensures
