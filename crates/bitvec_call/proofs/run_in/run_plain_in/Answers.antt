use Rattle.bitvec_call.proofs.run_in.run_plain_in.Goals as goal

pub run_requests-requires-clause-short : goal.run_requests-requires-clause-short
run_requests-requires-clause-short g c = c.test_run_in-status.ensures.short c.if-status-eq-OK.true

pub run_requests-requires-clause-can_run : goal.run_requests-requires-clause-can_run
run_requests-requires-clause-can_run g c =
    c.test_run_in-status.ensures.can_run c.if-status-eq-OK.true

pub run_requests-requires-clause-commands : goal.run_requests-requires-clause-commands
run_requests-requires-clause-commands g c =
    c.test_run_in-status.ensures.commands c.if-status-eq-OK.true

pub returns-then-status-eq-OK-clause-run : goal.returns-then-status-eq-OK-clause-run
returns-then-status-eq-OK-clause-run g c = record {
  status = c.test_run_in-status.ensures.status;
  done = λ done. c.run_requests.ensures;
  kept = λ refused. absurd (refused c.if-status-eq-OK.true);
  unanswered = λ refused. absurd (refused c.if-status-eq-OK.true);
}
