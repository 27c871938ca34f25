use Rattle.std.proofs.Common.{◌<◌, ◌-◌, ◌+◌, ◌≤◌, map, arith}
use Rattle.bitvec_span.specs.BitSpan.{span_of}
use Rattle.bitvec_span.proofs.FillWordLemmas.{fills-then, all-fills}
use Rattle.bitvec_span.proofs.ptr.span.BitSpan.fill.Goals as goal

pub returns-then-elements-eq1 : goal.returns-then-elements-eq1
returns-then-elements-eq1 g c =
    let some : 0 < g.R.BitRegister.BITS = omega (arith, g.met.R.BitRegister.width_at_least_8) in
    all-fills g.R.BitRegister.BITS g.O.BitAt.at_of (span_of c.args.self) c.args.bit (map g.R.BitRegister.number c.args.memory.now) 1 _ some
    (omega (arith, c.elements-elements.ensures.value, c.if-elements-eq1.true)) c.fill_part.ensures

pub returns : goal.returns
returns g c =
    let width = g.R.BitRegister.BITS in
    let at = g.O.BitAt.at_of in
    let number = g.R.BitRegister.number in
    let span = span_of c.args.self in
    let bit = c.args.bit in
    let old = map number c.args.memory.now in
    let first = map number c.fill_part.new.memory in
    let most = map number c.fill_between.new.memory in
    let n = c.elements-elements.result - 1 in
    let some : 0 < width = omega (arith, g.met.R.BitRegister.width_at_least_8) in
    let more : 1 ≤ n = omega (arith, c.if-elements-eq0.false, c.if-elements-eq1.false) in
    let start = fills-then width at span bit old 0 1 n first most (omega arith) more c.fill_part.ensures c.fill_between.ensures in
    all-fills width at span bit old (n + 1) _ some (omega (arith, c.elements-elements.ensures.value))
    (fills-then width at span bit old 0 n (n + 1) most _ (omega arith) (omega arith) start c.fill_part-2.ensures)
