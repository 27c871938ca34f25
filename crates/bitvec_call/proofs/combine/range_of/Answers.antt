use Rattle.std.proofs.Common.{Bool, List, map, subst}
use Rattle.bitvec.specs.Memory.{zip_with}
use Rattle.bitvec.specs.Span.{BecomesList, list_of, span_at}
use Rattle.bitvec.proofs.BecomesLemmas.{becomes-then}
use Rattle.bitvec_call.specs.Order.{order_at}
use Rattle.bitvec_call.specs.Range.{coded_bits}
use Rattle.bitvec_call.proofs.combine.range_of.Goals as goal

-- the copy of the first and then the combination with the second, of which the copy tells what is combined
pub returns : goal.returns
returns g c =
    let width = g.R.BitRegister.BITS in
    let number = g.R.BitRegister.number in
    let f = g.C.Combine.of in
    let at = order_at width c.args.order in
    let span = span_at width c.args.to c.args.count in
    let old = map number c.args.target.now in
    let mid = map number c.convert_range.new.target in
    let new = map number c.combine_range.new.target in
    let one = coded_bits number width c.args.order c.args.first_from c.args.first.now c.args.count in
    let other = coded_bits number width c.args.order c.args.second_from c.args.second.now c.args.count in
    let kept = list_of width at span mid in
    subst (λ (xs : List Bool). BecomesList width at span old new (zip_with f xs other)) {x = kept} {y = one} c.convert_range.ensures.list
    (becomes-then width at span old mid new one (zip_with f kept other) c.convert_range.ensures c.combine_range.ensures)
