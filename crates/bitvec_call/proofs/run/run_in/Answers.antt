use Rattle.std.proofs.Common.{◌≡◌, ℕ, length, map, take, subst, arith}
use Rattle.std.proofs.lemmas.List.{take_more, take_more_set}
use Rattle.bitvec.specs.Run.{CanRun}
use Rattle.bitvec_call.specs.Plain.{plain_span}
use Rattle.bitvec_call.specs.declared.plain.PlainRequest.{PlainRequest}
use Rattle.bitvec_call.proofs.RunLemmas.{plain_more, plain_all}
use Rattle.bitvec_call.proofs.run.run_in.Goals as goal

pub loop-n-preserved : goal.loop-n-preserved
loop-n-preserved g c =
    let number = g.R.BitRegister.number in
    let none : PlainRequest = record { span = 0; a = 0; b = 0; count = 0; number = 0; command = 0 } in
    let requests = c.args.requests.now in
    let replies = c.loop-n.replies in
    let n = c.loop-n.n in
    let reply = c.serve.result in
    rw (take_more requests n none (omega arith), take_more_set replies n reply (omega arith))
    (plain_more g.R.BitRegister.BITS g.O.BitAt.at_of c.args.spans.now (map number c.args.memory.now)
    (map number c.loop-n.memory) (map number c.serve.new.memory) (take n requests) (take n replies)
    _ reply c.loop-n.invariant c.serve.ensures)

pub serve-requires-clause-can_run : goal.serve-requires-clause-can_run
serve-requires-clause-can_run g c =
    let width = g.R.BitRegister.BITS in
    let long : length c.args.memory.now ≡ length c.loop-n.memory = omega (arith, c.loop-n.auto.memory) in
    subst (λ (n : ℕ). CanRun width (plain_span width) c.args.spans.now n) long c.requires.can_run

pub serve-requires-clause-command : goal.serve-requires-clause-command
serve-requires-clause-command g c =
    let none : PlainRequest = record { span = 0; a = 0; b = 0; count = 0; number = 0; command = 0 } in
    c.requires.commands c.loop-n.n none (omega arith)

pub returns : goal.returns
returns g c =
    let number = g.R.BitRegister.number in
    plain_all g.R.BitRegister.BITS g.O.BitAt.at_of c.args.spans.now (map number c.args.memory.now) (map number c.loop-n.memory) c.args.requests.now c.loop-n.replies c.loop-n.n
    (omega (arith, c.loop-n-test.false)) (omega (arith, c.loop-n-test.false, c.requires.replies, c.loop-n.auto.replies)) c.loop-n.invariant
