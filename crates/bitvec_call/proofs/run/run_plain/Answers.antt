use Rattle.bitvec_call.proofs.run.run_plain.Goals as goal

pub run_requests-requires-clause-short : goal.run_requests-requires-clause-short
run_requests-requires-clause-short g c = c.test_run-status.ensures.short c.if-status-eq-OK.true

pub run_requests-requires-clause-can_run : goal.run_requests-requires-clause-can_run
run_requests-requires-clause-can_run g c = c.test_run-status.ensures.can_run c.if-status-eq-OK.true

pub run_requests-requires-clause-replies : goal.run_requests-requires-clause-replies
run_requests-requires-clause-replies g c = c.test_run-status.ensures.room c.if-status-eq-OK.true

pub run_requests-requires-clause-commands : goal.run_requests-requires-clause-commands
run_requests-requires-clause-commands g c = c.test_run-status.ensures.commands c.if-status-eq-OK.true

pub returns-then-status-eq-OK : goal.returns-then-status-eq-OK
returns-then-status-eq-OK g c = record {
  status = c.test_run-status.ensures.status;
  done = λ done. c.run_requests.ensures;
  kept = λ refused. absurd (refused c.if-status-eq-OK.true);
  unanswered = λ refused. absurd (refused c.if-status-eq-OK.true);
}
