use Rattle.std.proofs.Common.{◌≡◌, ◌+◌, ◌-◌, ◌++◌, rules, replicate, take, drop, map, ap, arith}
use Rattle.bitvec.proofs.BecomesLemmas.{becomes-same}
use Rattle.bitvec.specs.BitSpan.{span_of, list_by}
use Rattle.bitvec.specs.Span.{with_filled}
use Rattle.bitvec_slice.proofs.LentLemmas.{lent_edit}
use Rattle.bitvec_stream.proofs.writer.memory.fill_bits.Goals as goal

pub returns : goal.returns
returns g c =
    let order = g.O.BitAt.at_of in
    let old = c.args.memory.now in
    let at = c.args.at in
    let n = c.args.count in
    let bit = c.args.bit in
    let xs = list_by c.args.span order old in
    let same : at + n - at ≡ n = omega arith in
    becomes-same g.R.BitRegister.BITS order (span_of c.args.span) (map g.R.BitRegister.number old) _ _ _ (ap (λ m. take at xs ++ replicate m bit ++ drop (at + n) xs) same)
    (lent_edit c.new_unchecked-slice.result c.fill_range.new.self (span_of c.args.span) old _ (λ us. with_filled us at (at + n) bit) c.new_unchecked-slice.ensures.span c.new_unchecked-slice.ensures.memory (search rules) c.fill_range.ensures.bits)
