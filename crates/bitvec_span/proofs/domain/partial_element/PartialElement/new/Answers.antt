use Rattle.bitvec_span.proofs.PartLemmas.{part_same}
use Rattle.bitvec_span.proofs.SliceLemmas.{slice_index-one}
use Rattle.bitvec_span.proofs.domain.partial_element.PartialElement.new.Goals as goal

pub returns : goal.returns
returns g c = part_same _ _ _ _ _ _ (slice_index-one g.R.BitRegister.number c.args.memory.now c.args.at) c.into_inner.ensures.value c.into_inner-2.ensures.value
