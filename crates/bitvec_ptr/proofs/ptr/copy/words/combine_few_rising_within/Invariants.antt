use Rattle.std.proofs.Common.{◌+◌, ◌*◌}
use Rattle.bitvec_ptr.specs.Combinations.{HasCombined}
use Rattle.bitvec_ptr.proofs.ptr.copy.words.combine_few_rising_within.Given as goal

abbrev pub invariant-loop-k : goal.invariant-loop-k
invariant-loop-k g l =
    let R = g.R.BitRegister in
    let at = g.O.BitAt.at_of in
    HasCombined g.C.Combine.of R.BITS at R.number l.fn.writer.words.now (l.fn.from.word * R.BITS + l.fn.from.bit) R.BITS at R.number l.fn.writer
    l.writer (l.to * R.BITS) (l.k * R.BITS) l.to l.k
