use Rattle.bench.proofs.timer.repeats.Given as goal

-- the job can be done again
abbrev pub invariant-loop-doublings : goal.invariant-loop-doublings
invariant-loop-doublings g l = g.J.Job.ready l.job
