use Rattle.std.proofs.Common.{◌≡◌, ◌↔◌, Bool, List, false, subst}
use Rattle.bitvec_slice.specs.Bits.{AllBetween}
use Rattle.bitvec_slice.proofs.slice.readers.ReadBits.any_in.Goals as goal

pub returns : goal.returns
returns g c = subst (λ (xs : List Bool). (c.any_in.result ≡ false) ↔ AllBetween false xs c.args.from c.args.to) c.as_bitslice.ensures.bits c.any_in.ensures
