use Rattle.std.proofs.Common.{◌≡◌, ◌+◌, ◌-◌, rules, map, ap, arith}
use Rattle.bitvec.proofs.BecomesLemmas.{becomes-same}
use Rattle.bitvec.specs.BitSpan.{span_of, list_by}
use Rattle.bitvec_slice.proofs.LentLemmas.{lent_edit}
use Rattle.bitvec_slice.specs.Ranges.{with_range}
use Rattle.bitvec_stream.specs.Numbers.{digits_be}
use Rattle.bitvec_stream.proofs.writer.memory.store_be.Goals as goal

pub returns : goal.returns
returns g c =
    let order = g.O.BitAt.at_of in
    let old = c.args.memory.now in
    let at = c.args.at in
    let n = c.args.count in
    let value = g.N.BitRegister.number c.args.digits in
    let xs = list_by c.args.span order old in
    let same : at + n - at ≡ n = omega arith in
    becomes-same g.R.BitRegister.BITS order (span_of c.args.span) (map g.R.BitRegister.number old) _ _ _ (ap (λ m. with_range xs at (at + n) (digits_be m value)) same)
    (lent_edit c.new_unchecked-slice.result c.store_digits_be.new.self (span_of c.args.span) old _ (λ us. with_range us at (at + n) (digits_be (at + n - at) value)) c.new_unchecked-slice.ensures.span c.new_unchecked-slice.ensures.memory (search rules) c.store_digits_be.ensures.bits)
