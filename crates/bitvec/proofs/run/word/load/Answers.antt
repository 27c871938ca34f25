use Rattle.std.proofs.Common.{arith, ◌∙◌}
use Rattle.bitvec.proofs.run.word.load.Goals as goal

pub returns-then-k-elements : goal.returns-then-k-elements
returns-then-k-elements g c = (omega (arith, c.elements.ensures.value), c.load_value.ensures ∙ c.part.ensures.word)

pub returns-else-k-elements : goal.returns-else-k-elements
returns-else-k-elements g c = omega (arith, c.elements.ensures.value)
