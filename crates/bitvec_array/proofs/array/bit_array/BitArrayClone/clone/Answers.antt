use Rattle.bitvec_array.proofs.SameArray.{same-array}
use Rattle.bitvec_array.proofs.array.bit_array.BitArrayClone.clone.Goals as goal

pub returns : goal.returns
returns g c = record { cases = same-array c.args.self.now _ }
