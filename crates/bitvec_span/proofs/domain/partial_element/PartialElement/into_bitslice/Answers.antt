use Rattle.std.proofs.Common.{arith}
use Rattle.bitvec_span.proofs.WordsLemmas.{one_met}
use Rattle.bitvec_span.proofs.domain.partial_element.PartialElement.into_bitslice.Goals as goal

pub invariant_of-result-clause-short : goal.invariant_of-result-clause-short
invariant_of-result-clause-short g c = omega (arith, c.args.self.tail_in, g.met.R.BitRegister.width_at_most_128)

pub invariant_of-result-clause-fits : goal.invariant_of-result-clause-fits
invariant_of-result-clause-fits g c =
    let part = c.args.self in
    rw c.from.ensures (omega (arith, one_met g.R.BitRegister.BITS part.head part.tail part.tail_in part.ordered, part.single))
