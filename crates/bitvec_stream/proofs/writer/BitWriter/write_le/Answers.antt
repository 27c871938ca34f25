use Rattle.std.proofs.Common.{◌≡◌, ◌≤◌, length, arith}
use Rattle.bitvec_stream.specs.Numbers.{digits_le}
use Rattle.bitvec_stream.specs.Writer.{room}
use Rattle.bitvec_slice.proofs.DigitListLemmas.{length-digits_le}
use Rattle.bitvec_stream.proofs.RowLemmas.{room_after}
use Rattle.bitvec_stream.proofs.writer.BitWriter.write_le.Goals as goal

pub returns-clause-left : goal.returns-clause-left
returns-clause-left g c =
    let n = g.N.BitRegister.number c.args.value in
    let fits : c.args.count ≤ length (room c.args.self.now) = omega (arith, c.if-remaining-count.false, c.remaining.ensures) in
    room_after (room c.args.self.now) (room c.put_le.new.self) (digits_le c.args.count n) c.args.count fits (length-digits_le c.args.count n) c.put_le.ensures.1
