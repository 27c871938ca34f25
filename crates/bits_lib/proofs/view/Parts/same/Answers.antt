use Rattle.std.proofs.Common.{rules, map, arith}
use Rattle.bits_lib.specs.View.{part_span}
use Rattle.bits_lib.proofs.ViewLemmas.{same_length, equal_lists}
use Rattle.bits_lib.proofs.view.Parts.same.Goals as goal

pub returns-then-len-count : goal.returns-then-len-count
returns-then-len-count g c =
    let parts = c.args.self.now in
    ((λ no. cc), λ e. absurd (omega (arith, same_length g.R.BitRegister.BITS g.O.BitAt.at_of (part_span parts c.args.a) (part_span parts c.args.b) (map g.R.BitRegister.number parts.memory.now) e, c.len.ensures, c.len-count.ensures, c.if-len-count.true)))

pub returns : goal.returns
returns g c =
    let parts = c.args.self.now in (
      (λ yes. equal_lists g.R.BitRegister.BITS g.O.BitAt.at_of (part_span parts c.args.a) (part_span parts c.args.b) (map g.R.BitRegister.number parts.memory.now)
          (omega (arith, c.len.ensures, c.len-count.ensures, c.if-len-count)) (λ j h. c.loop-i.invariant j (omega (arith, c.len-count.ensures, c.loop-i-test)))),
      λ e. search rules,
    )
