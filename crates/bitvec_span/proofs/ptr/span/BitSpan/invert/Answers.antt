use Rattle.std.proofs.Common.{◌<◌, ◌-◌, ◌+◌, ◌≤◌, not, map, arith}
use Rattle.bitvec_span.specs.BitSpan.{span_of}
use Rattle.bitvec_span.proofs.MappedLemmas.{maps-then, all-maps}
use Rattle.bitvec_span.proofs.ptr.span.BitSpan.invert.Goals as goal

pub returns-then-elements-eq1 : goal.returns-then-elements-eq1
returns-then-elements-eq1 g c =
    let some : 0 < g.R.BitRegister.BITS = omega (arith, g.met.R.BitRegister.width_at_least_8) in
    all-maps not g.R.BitRegister.BITS g.O.BitAt.at_of (span_of c.args.self) (map g.R.BitRegister.number c.args.memory.now) 1 _ some
    (omega (arith, c.extent-elements.ensures.elements, c.if-elements-eq1.true)) c.invert_part.ensures

pub returns : goal.returns
returns g c =
    let width = g.R.BitRegister.BITS in
    let at = g.O.BitAt.at_of in
    let number = g.R.BitRegister.number in
    let span = span_of c.args.self in
    let old = map number c.args.memory.now in
    let first = map number c.invert_part.new.memory in
    let most = map number c.invert_between.new.memory in
    let n = c.extent-elements.result.0 - 1 in
    let some : 0 < width = omega (arith, g.met.R.BitRegister.width_at_least_8) in
    let more : 1 ≤ n = omega (arith, c.if-elements-eq0.false, c.if-elements-eq1.false) in
    let start = maps-then not width at span old 0 1 n first most (omega arith) more c.invert_part.ensures c.invert_between.ensures in
    all-maps not width at span old (n + 1) _ some (omega (arith, c.extent-elements.ensures.elements))
    (maps-then not width at span old 0 n (n + 1) most _ (omega arith) (omega arith) start c.invert_part-2.ensures)
