use Rattle.std.proofs.Common.{ap, pos, ◌∙◌}
use Rattle.bitvec_ptr.specs.PtrRange.{count_of}
use Rattle.tests_ptr.proofs.EndLemmas.{greatest-range}
use Rattle.tests_ptr.proofs.ends.greatest_range.Goals as goal

pub from_range-requires : goal.from_range-requires
from_range-requires c = (greatest-range _ _ c.requires.start c.requires.end).0

pub returns : goal.returns
returns c = ap (λ z. pos (count_of 8 z)) c.from_range.ensures ∙ (greatest-range _ _ c.requires.start c.requires.end).1
