use Rattle.bitvec.proofs.PartLemmas.{length-list_of}
use Rattle.bitvec.specs.BitSpan.{span_of}
use Rattle.bitvec_stream.proofs.writer.BitWriter.over_unchecked.Goals as goal

pub invariant_of-result-clause-many : goal.invariant_of-result-clause-many
invariant_of-result-clause-many g c = length-list_of g.R.BitRegister.BITS g.O.BitAt.at_of (span_of c.args.span)
