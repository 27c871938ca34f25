use Rattle.tests_ptr.proofs.EndLemmas.{past-distance}
use Rattle.tests_ptr.proofs.ends.measures_past.Goals as goal

pub returns : goal.returns
returns c = λ t. past-distance _ _ c.requires.far c.requires.origin (c.can_offset_from.ensures.0 t)
