use Rattle.std.proofs.Common.{sym}
use Rattle.bitvec_slice.proofs.DigitListLemmas.{digits_be-low}
use Rattle.bitvec_stream.specs.Numbers.{digits_be}
use Rattle.bitvec_stream.proofs.WriterLemmas.{writes-as}
use Rattle.bitvec_stream.proofs.writer.BitWriter.put_be.Goals as goal

pub returns-then-count-self : goal.returns-then-count-self
returns-then-count-self g c =
    let count = c.args.count in
    let number = g.N.BitRegister.number in
    let first = number c.lowest.result in
    writes-as c.args.self.now c.put_kept.new.self (digits_be count first) (digits_be count (number c.args.digits)) (sym (digits_be-low count (number c.args.digits) first (sym c.lowest.ensures))) c.put_kept.ensures.writes

pub returns-then-is_across : goal.returns-then-is_across
returns-then-is_across g c =
    let count = c.args.count in
    let number = g.N.BitRegister.number in
    let first = number c.lowest-then-is_across.result in
    writes-as c.args.self.now c.put_across.new.self (digits_be count first) (digits_be count (number c.args.digits)) (sym (digits_be-low count (number c.args.digits) first (sym c.lowest-then-is_across.ensures))) c.put_across.ensures
