use Rattle.std.proofs.Common.{◌<◌, map, refl, arith}
use Rattle.bitvec_span.specs.BitSpan.{span_of}
use Rattle.bitvec.proofs.CommandLemmas.{past-swap, step-swap}
use Rattle.bitvec.proofs.run.steps.swap.Goals as goal
use Rattle.bitvec.proofs.run.steps.swap.Goals.{else-index-len-via-then-index-len+else-with-len, else-index-len-via-else-index-len}

pub returns-then-with-len : goal.returns-then-with-len
returns-then-with-len g c =
    let number = g.R.BitRegister.number in
    step-swap number g.R.BitRegister.BITS g.O.BitAt.at_of (span_of c.args.span) (map number c.args.memory.now) (map number c.swap.new.memory)
    c.args.index c.args.with (omega (arith, c.len-len.ensures)) (omega (arith, c.len-len.ensures)) c.swap.ensures

pub returns-else-index-len : goal.returns-else-index-len
returns-else-index-len g c =
    let number = g.R.BitRegister.number in
    let words = map number c.args.memory.now in
    let never : c.args.index < c.args.span.len → c.args.with < c.args.span.len → ⊥ = elim c.else-index-len.branch [
      | else-index-len-via-then-index-len+else-with-len w ↦ (λ p q. omega (arith, c.len-len.ensures))
      | else-index-len-via-else-index-len w ↦ (λ p q. omega (arith, c.len-len.ensures))
    ] in
    past-swap number g.R.BitRegister.BITS g.O.BitAt.at_of (span_of c.args.span) words words c.args.index c.args.with never refl
