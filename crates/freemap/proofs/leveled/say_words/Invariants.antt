use Rattle.std.proofs.Common.{◌≡◌}
use Rattle.freemap.specs.Map.{in_use}
use Rattle.freemap.specs.Summary.{SummarisesBeside}
use Rattle.freemap.proofs.leveled.say_words.Given as goal

abbrev pub invariant-loop-w : goal.invariant-loop-w
invariant-loop-w g l = SummarisesBeside (in_use l.map) (g.S.Level.marks l.full) l.w l.words × (g.S.Level.loans l.full ≡ g.S.Level.loans l.fn.full)
