use Rattle.std.proofs.Common.{◌+◌, ◌≤◌, map, refl, arith, rules}
use Rattle.bitvec_span.specs.BitSpan.{span_of}
use Rattle.bitvec.proofs.CommandLemmas.{past-copy, step-copy}
use Rattle.bitvec.proofs.run.steps.copy.Goals as goal

pub returns-then-can_copy : goal.returns-then-can_copy
returns-then-can_copy g c =
    let number = g.R.BitRegister.number in
    let within = c.if-can_copy.ensures.0 (search rules) in
    step-copy number g.R.BitRegister.BITS g.O.BitAt.at_of (span_of c.args.span) (map number c.args.memory.now) (map number c.copy_within.new.memory)
    c.args.from c.args.to c.args.count (omega (arith, c.len.ensures, within.0)) (omega (arith, c.len.ensures, within.1)) c.copy_within.ensures

pub returns-else-can_copy : goal.returns-else-can_copy
returns-else-can_copy g c =
    let number = g.R.BitRegister.number in
    let words = map number c.args.memory.now in
    let never : c.args.from + c.args.count ≤ c.args.span.len → c.args.to + c.args.count ≤ c.args.span.len → ⊥ = λ p q.
    let yes = c.if-can_copy.ensures.1 (omega (arith, c.len.ensures, p), omega (arith, c.len.ensures, q)) in
    search rules in
    past-copy number g.R.BitRegister.BITS g.O.BitAt.at_of (span_of c.args.span) words words c.args.from c.args.to c.args.count never refl
