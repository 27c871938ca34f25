use Rattle.std.proofs.Common.{◌≡◌, ◌≢◌, ◌⊎◌, ℕ, List, [], ◌∷◌, ◌++◌, length, arith}
use Rattle.std.proofs.Common.{inl, inr, sym, ◌∙◌}
use Rattle.bitvec_call.specs.RunStatus.{IsFirstFailed, roomy_conditions, requests_conditions}
use Rattle.bitvec_call.proofs.run_in.test_run_in.Goals as goal

-- the status of a call that has passed the first of its conditions
passed : {A X : Type 0} {status code : ℕ} → status ≡ 0 → code ≢ 0
    → ((¬ A) × (status ≡ code)) ⊎ (A × X) → A × X
passed is some (inl failed) = absurd (some (sym failed.1 ∙ is))
passed is some (inr rest) = rest

-- one that has failed one of its conditions has so too where others follow them
failed_more : (first rest : List (Type 0 × ℕ)) (status : ℕ) → status ≢ 0
    → IsFirstFailed first status → IsFirstFailed (first ++ rest) status
failed_more [] rest status some is = absurd (some is)
failed_more (condition ∷ first) rest status some (inl failed) = inl failed
failed_more (condition ∷ first) rest status some (inr is) =
    inr (is.0, failed_more first rest status some is.1)

pub returns-then-status-ne-OK-clause-status : goal.returns-then-status-ne-OK-clause-status
returns-then-status-ne-OK-clause-status g c =
    let conditions = roomy_conditions g.R.BitRegister.BITS c.args.order c.args.spans.now
    c.args.words (length c.args.room.now) in
    let more = requests_conditions c.args.requests.now c.args.replies in
    failed_more conditions more _ c.if-status-ne-OK.true c.test_spans_in-status.ensures.status

pub returns-clause-status : goal.returns-clause-status
returns-clause-status g c =
    let is = c.if-status-ne-OK.false in
    let order = passed is (omega arith) c.test_spans_in-status.ensures.status in
    let room = passed is (omega arith) order.1 in
    let short = passed is (omega arith) room.1 in
    let inside = passed is (omega arith) short.1 in
    let apart = passed is (omega arith) inside.1 in
    let status = c.test_requests.ensures.status in
    inr (order.0, inr (room.0, inr (short.0, inr (inside.0, inr (apart.0, status)))))

pub returns-clause-can_run : goal.returns-clause-can_run
returns-clause-can_run g c done =
    c.test_spans_in-status.ensures.can_run c.if-status-ne-OK.false

pub returns-clause-commands : goal.returns-clause-commands
returns-clause-commands g c = c.test_requests.ensures.commands

pub returns-then-status-ne-OK-clause-can_run : goal.returns-then-status-ne-OK-clause-can_run
returns-then-status-ne-OK-clause-can_run g c done = absurd (c.if-status-ne-OK.true done)
