use Rattle.std.proofs.Common.{rules, arith}
use Rattle.std.specs.Prelude.{FitsSigned}
use Rattle.std.specs.Int.{w128}
use Rattle.bitvec_slice.specs.Signed.{complement_of}
use Rattle.bitvec_slice.proofs.SignedLemmas.{low_digits}
use Rattle.bitvec_stream.specs.Numbers.{digits_le}
use Rattle.bitvec_slice.proofs.DigitListLemmas.{digits_le-low}
use Rattle.bitvec_stream.proofs.WriterLemmas.{writes-as}
use Rattle.bitvec_stream.proofs.writer.BitWriter.write_signed_le.Goals as goal

pub returns-clause-written : goal.returns-clause-written
returns-clause-written g c =
    let z = g.N.SignedNumber.number c.args.value in
    let count = c.args.count in
    let most = g.met.N.SignedNumber.width_at_most_128 in
    let fits : FitsSigned w128 c.to_i128-number.result = search rules in
    let low = low_digits count c.cast_unsigned.result c.to_i128-number.result z (omega (arith, c.requires, most)) fits c.cast_unsigned.ensures c.to_i128-number.ensures.number in
    writes-as c.args.self.now c.put_le.new.self (digits_le count c.cast_unsigned.result) (digits_le count (complement_of count z)) (digits_le-low count c.cast_unsigned.result (complement_of count z) low) c.put_le.ensures
