use Rattle.bitvec_slice.proofs.SliceTextLemmas.{plain_from_styled}
use Rattle.bitvec_slice.proofs.slice.text.write_text.Goals as goal

pub returns-clause-styled : goal.returns-clause-styled
returns-clause-styled g c = rw c.iter.ensures.rest at c.write_digits.ensures

pub returns-clause-writes : goal.returns-clause-writes
returns-clause-writes g c = plain_from_styled _ _ _ _ _ (returns-clause-styled g c)
