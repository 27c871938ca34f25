use Rattle.std.proofs.Common.{◌<◌, ◌≤◌, map, arith}
use Rattle.bitvec_span.specs.BitSpan.{span_of}
use Rattle.bitvec_span.proofs.BecomesLemmas.{more-becomes, all-becomes}
use Rattle.bitvec_span.proofs.ptr.span.BitSpan.write_bits.Goals as goal

pub loop-i-preserved : goal.loop-i-preserved
loop-i-preserved g c =
    let number = g.R.BitRegister.number in
    let below : c.loop-i.i < c.args.self.len = omega (arith, c.loop-i-test.true, c.len-i-end.ensures) in
    more-becomes g.R.BitRegister.BITS g.O.BitAt.at_of (span_of c.args.self) (map number c.args.memory.now)
    (map number c.loop-i.memory) _ c.args.bits.now c.loop-i.i c.requires.len below
    c.loop-i.invariant c.write.ensures

pub returns : goal.returns
returns g c =
    let number = g.R.BitRegister.number in
    let all : c.args.self.len ≤ c.loop-i.i = omega (arith, c.loop-i-test.false, c.len-i-end.ensures) in
    all-becomes g.R.BitRegister.BITS g.O.BitAt.at_of (span_of c.args.self) (map number c.args.memory.now)
    (map number c.loop-i.memory) c.args.bits.now c.loop-i.i c.requires.len all c.loop-i.invariant
