-- answered here, so that a wrong body is refused at once
use Rattle.std.proofs.Common.{arith, rules}
use Rattle.bitvec.proofs.run.word.store.Goals as goal

pub returns-then-k-elements : goal.returns-then-k-elements
returns-then-k-elements g c = (omega (arith, c.elements.ensures.value), search rules)
