use Rattle.bench.proofs.timer.best.Given as goal

-- the job can be done again
abbrev pub invariant-loop : goal.invariant-loop
invariant-loop g l = g.J.Job.ready l.job
