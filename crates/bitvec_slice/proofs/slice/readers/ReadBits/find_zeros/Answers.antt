use Rattle.std.proofs.Common.{◌<◌, ℕ, Bool, List, subst}
use Rattle.std.specs.Prelude.{MatchOption}
use Rattle.bitvec_slice.specs.Bits.{AreFree}
use Rattle.bitvec_slice.proofs.slice.readers.ReadBits.find_zeros.Goals as goal

pub returns : goal.returns
returns g c = subst (λ (xs : List Bool). MatchOption c.find_zeros.result ((i : ℕ) → ¬ AreFree xs i c.args.count) (λ i. AreFree xs i c.args.count × ((k : ℕ) → k < i → ¬ AreFree xs k c.args.count))) c.as_bitslice.ensures.bits c.find_zeros.ensures
