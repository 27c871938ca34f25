use Rattle.std.proofs.Common.{◌≡◌, ◌↔◌, Bool, List, false, subst}
use Rattle.bitvec.specs.Truths.{AllAre}
use Rattle.bitvec_slice.proofs.slice.readers.ReadBits.any.Goals as goal

pub returns : goal.returns
returns g c = subst (λ (xs : List Bool). (c.any.result ≡ false) ↔ AllAre false xs) c.as_bitslice.ensures.bits c.any.ensures
