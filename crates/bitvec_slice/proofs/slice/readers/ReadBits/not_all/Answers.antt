use Rattle.std.proofs.Common.{◌≡◌, ◌↔◌, Bool, List, true, false, subst}
use Rattle.bitvec.specs.Truths.{AllAre}
use Rattle.bitvec_slice.proofs.slice.readers.ReadBits.not_all.Goals as goal

pub returns : goal.returns
returns g c = subst (λ (xs : List Bool). (c.not_all.result ≡ false) ↔ AllAre true xs) c.as_bitslice.ensures.bits c.not_all.ensures
