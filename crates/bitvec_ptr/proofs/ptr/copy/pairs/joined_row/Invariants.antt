use Rattle.std.proofs.Common.{◌+◌, ◌*◌, map}
use Rattle.bitvec_mem.specs.Ones.{HasNoOne}
use Rattle.bitvec_ptr.specs.Pairs.{pair_of, NoneBelow}
use Rattle.bitvec_ptr.proofs.ptr.copy.pairs.joined_row.Given as goal

-- where no one was joined, no pair of the words before this one is one
abbrev pub invariant-loop-k : goal.invariant-loop-k
invariant-loop-k g l =
    let R = g.R.BitRegister in
    let R2 = g.R2.BitRegister in
    HasNoOne R.BITS (R.number l.joined)
    → NoneBelow (pair_of g.C.Combine.of R.BITS g.O.BitAt.at_of (map R.number l.memory) (l.to * R.BITS) R2.BITS g.O2.BitAt.at_of (map R2.number l.other)
    (l.from.word * R2.BITS + l.from.bit)) (l.k * R.BITS)
