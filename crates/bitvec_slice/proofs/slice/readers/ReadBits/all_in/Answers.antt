use Rattle.std.proofs.Common.{◌↔◌, Bool, List, true, subst}
use Rattle.std.specs.Prelude.{IsTrue}
use Rattle.bitvec_slice.specs.Bits.{AllBetween}
use Rattle.bitvec_slice.proofs.slice.readers.ReadBits.all_in.Goals as goal

pub returns : goal.returns
returns g c = subst (λ (xs : List Bool). IsTrue c.all_in.result ↔ AllBetween true xs c.args.from c.args.to) c.as_bitslice.ensures.bits c.all_in.ensures
