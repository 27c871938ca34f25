use Rattle.std.proofs.Common.{arith}
use Rattle.bitvec_span.specs.PartialElementMut.{slot_in}
use Rattle.bitvec_span.proofs.StretchLemmas.{part_stretch}
use Rattle.bitvec_span.proofs.WordsLemmas.{one_met}
use Rattle.bitvec_span.proofs.domain.partial_element_mut.PartialElementMut.into_bitslice.Goals as goal

pub invariant_of-result-clause-short : goal.invariant_of-result-clause-short
invariant_of-result-clause-short g c = omega (arith, c.args.self.tail_in, g.met.R.BitRegister.width_at_most_128)

pub invariant_of-result-clause-fits : goal.invariant_of-result-clause-fits
invariant_of-result-clause-fits g c =
    let part = c.args.self in
    rw c.from.ensures (one_met g.R.BitRegister.BITS part.head part.tail part.tail_in part.ordered)

pub returns-clause-bits : goal.returns-clause-bits
returns-clause-bits g c = rw c.from.ensures (part_stretch g.R.BitRegister.number c.args.self.memory.now (slot_in c.args.self) c.args.self.in_memory)
