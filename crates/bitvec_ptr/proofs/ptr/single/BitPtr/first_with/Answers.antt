use Rattle.std.proofs.Common.{◌<◌, length, nat_abs, arith}
use Rattle.bitvec_ptr.proofs.CopyLemmas.{met_covers}
use Rattle.bitvec_ptr.proofs.ptr.single.BitPtr.first_with.Goals as goal

pub first_pair-requires-clause-from_in : goal.first_pair-requires-clause-from_in
first_pair-requires-clause-from_in g c =
    let R2 = g.R2.BitRegister in
    let some : 0 < R2.BITS = omega (arith, g.met.R2.BitRegister.width_at_least_8) in
    let more : 0 < c.args.count = omega arith in
    rw c.at-from.ensures.place
    (met_covers R2.BITS (nat_abs c.args.other.word) c.args.other.bit c.args.count (length c.args.other_memory.now) some more c.requires.there.1)
