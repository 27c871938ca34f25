use Rattle.bitvec_stream.proofs.SignedGolombLemmas.{lacking_less}
use Rattle.bitvec_stream.proofs.reader.golomb.signed_code_value.Goals as goal

pub returns-in-None : goal.returns-in-None
returns-in-None g c = lacking_less g.N.SignedNumber.BITS _ g.met.N.SignedNumber.width_at_most_128 c.in-None.ensures
