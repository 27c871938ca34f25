use Rattle.std.proofs.Common.{ap, ◌∙◌}
use Rattle.std.specs.Int.{w64}
use mir.Val.{to_z, of_z}
use Rattle.tests_ptr.proofs.EndLemmas.{least-distance}
use Rattle.tests_ptr.proofs.ends.least_distance.Goals as goal

pub offset_from-requires : goal.offset_from-requires
offset_from-requires c = (least-distance _ _ c.requires.far c.requires.origin).0

pub returns : goal.returns
returns c = ap (λ z. to_z w64 (of_z w64 z)) (c.offset_from.ensures ∙ (least-distance _ _ c.requires.far c.requires.origin).1)
