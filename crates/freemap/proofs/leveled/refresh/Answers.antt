use Rattle.std.proofs.Common.{arith}
use Rattle.freemap.proofs.leveled.refresh.Goals as goal

pub refresh_rest-requires-clause-inner : goal.refresh_rest-requires-clause-inner
refresh_rest-requires-clause-inner g c = λ w later upto. c.requires.inner w (omega (arith, later)) upto
