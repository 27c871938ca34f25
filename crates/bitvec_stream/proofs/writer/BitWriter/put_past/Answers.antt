use Rattle.std.proofs.Common.{sym}
use Rattle.bitvec_slice.proofs.DigitListLemmas.{digits_be-low}
use Rattle.bitvec_stream.specs.Numbers.{digits_be}
use Rattle.bitvec_stream.proofs.WriterLemmas.{writes-as, writes-from}
use Rattle.bitvec_stream.proofs.writer.BitWriter.put_past.Goals as goal

pub returns-then-count-self : goal.returns-then-count-self
returns-then-count-self g c =
    let old = c.args.self.now in
    let mid = c.keep.new.self in
    let new = c.put_kept.new.self in
    let count = c.args.count in
    let number = g.N.BitRegister.number in
    let all = digits_be count (number c.args.digits) in
    let first = number c.lowest.result in
    let write = writes-as mid new (digits_be count first) all (sym (digits_be-low count (number c.args.digits) first (sym c.lowest.ensures))) c.put_kept.ensures.writes in
    writes-from old mid new all c.keep.ensures.memory c.keep.ensures.span c.keep.ensures.position write
