use Rattle.std.proofs.Common.{◌<◌, ◌≤◌, ◌∙◌, sym, map, arith}
use Rattle.bitvec.specs.BitSpan.{span_of}
use Rattle.bitvec.proofs.BecomesLemmas.{more-becomes, all-becomes}
use Rattle.bitvec_slice.specs.SliceText.{text_bits}
use Rattle.bitvec_slice.proofs.SliceTextLemmas.{length-text_bits, text_bit}
use Rattle.bitvec_slice.proofs.slice.text.put_digits.Goals as goal

pub loop-i-preserved : goal.loop-i-preserved
loop-i-preserved g c =
    let number = g.R.BitRegister.number in
    let text = c.args.digits.now in
    let many = length-text_bits text ∙ c.requires.many in
    let below : c.loop-i.i < c.args.span.len = omega (arith, c.loop-i-test.true, c.requires.many) in
    more-becomes g.R.BitRegister.BITS g.O.BitAt.at_of (span_of c.args.span) (map number c.args.memory.now)
    (map number c.loop-i.memory) _ (text_bits text) c.loop-i.i many below
    c.loop-i.invariant (rw (sym (text_bit text c.loop-i.i c.loop-i-test.true)) at c.write.ensures)

pub returns : goal.returns
returns g c =
    let number = g.R.BitRegister.number in
    let text = c.args.digits.now in
    let many = length-text_bits text ∙ c.requires.many in
    let all : c.args.span.len ≤ c.loop-i.i = omega (arith, c.loop-i-test.false, c.requires.many) in
    all-becomes g.R.BitRegister.BITS g.O.BitAt.at_of (span_of c.args.span) (map number c.args.memory.now)
    (map number c.loop-i.memory) (text_bits text) c.loop-i.i many all c.loop-i.invariant
