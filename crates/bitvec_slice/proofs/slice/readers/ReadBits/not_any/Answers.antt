use Rattle.std.proofs.Common.{◌↔◌, Bool, List, false, subst}
use Rattle.std.specs.Prelude.{IsTrue}
use Rattle.bitvec.specs.Truths.{AllAre}
use Rattle.bitvec_slice.proofs.slice.readers.ReadBits.not_any.Goals as goal

pub returns : goal.returns
returns g c = subst (λ (xs : List Bool). IsTrue c.not_any.result ↔ AllAre false xs) c.as_bitslice.ensures.bits c.not_any.ensures
