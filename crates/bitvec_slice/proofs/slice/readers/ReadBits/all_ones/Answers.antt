use Rattle.std.proofs.Common.{◌↔◌, Bool, List, true, subst}
use Rattle.std.specs.Prelude.{IsTrue}
use Rattle.bitvec.specs.Truths.{AllAre}
use Rattle.bitvec_slice.proofs.slice.readers.ReadBits.all_ones.Goals as goal

pub returns : goal.returns
returns g c = subst (λ (xs : List Bool). IsTrue c.all_ones.result ↔ AllAre true xs) c.as_bitslice.ensures.bits c.all_ones.ensures
