use Rattle.std.proofs.Common.{◌+◌, ◌-◌, ◌^◌, true, false, replicate, refl, sym, arith}
use Rattle.bitvec_stream.specs.Golomb.{golomb}
use Rattle.bitvec_stream.specs.Numbers.{digits_be}
use Rattle.bitvec_stream.proofs.GolombLemmas.{golomb-written, length-written}
use Rattle.bitvec_stream.proofs.WriterLemmas.{writes-both, writes-as}
use Rattle.bitvec_stream.proofs.writer.BitWriter.put_code.Goals as goal

pub returns-then-remaining-zeros-clause-accepted : goal.returns-then-remaining-zeros-clause-accepted
returns-then-remaining-zeros-clause-accepted g c =
    let long = length-written c.args.zeros c.args.low c.requires.below in
    (λ h. absurd (cc), λ inside. absurd (omega (arith, long, inside, c.remaining.ensures, c.if-remaining-zeros.true)))

pub returns-clause-accepted : goal.returns-clause-accepted
returns-clause-accepted g c =
    let long = length-written c.args.zeros c.args.low c.requires.below in
    (λ h. omega (arith, long, c.remaining.ensures, c.if-remaining-zeros.false), λ h. refl)

pub returns-clause-written : goal.returns-clause-written
returns-clause-written g c =
    let zeros = replicate c.args.zeros false in
    let digits = digits_be c.args.zeros c.args.low in
    let start = writes-both c.args.self.now c.fill.new.self c.fill-2.new.self zeros (replicate 1 true) c.fill.ensures c.fill-2.ensures in
    let all = writes-both c.args.self.now c.fill-2.new.self c.put_be.new.self _ digits start c.put_be.ensures in
    writes-as c.args.self.now c.put_be.new.self _ (golomb (2 ^ c.args.zeros + c.args.low - 1)) (sym (golomb-written c.args.zeros c.args.low c.requires.below)) all
