use Rattle.std.proofs.Common.{true, false, length, map, refl, rules}
use Rattle.bitvec.proofs.PartLemmas.{length-list_of}
use Rattle.bitvec_slice.specs.BitSliceMut.{lent_span}
use Rattle.bitvec_slice.proofs.LentLemmas.{lent_edit}
use Rattle.bitvec_slice.specs.Field.{field_list}
use Rattle.bitvec_call.proofs.PlainNumberLemmas.{stored_range}
use Rattle.bitvec_call.proofs.number.store_in.Goals as goal

pub returns-then-big : goal.returns-then-big
returns-then-big g c =
    let width = g.R.BitRegister.BITS in
    let at = g.O.BitAt.at_of in
    let number = g.R.BitRegister.number in
    let memory = c.args.memory.now in
    let range = c.bits_mut-range.result in
    let span = lent_span range in
    let many = length-list_of width at span (map number memory) in
    let edit = lent_edit range c.store_be.new.self span memory _ (λ xs. field_list true width g.O.Sequential.RISES span.head (length xs) c.args.number) refl c.bits_mut-range.ensures.memory (search rules) c.store_be.ensures.stored in
    rw c.if-big.true
    (stored_range width at true g.O.Sequential.RISES c.args.start c.args.count c.args.number _ span _ _ c.bits_mut-range.ensures.span many edit)

pub returns-else-big : goal.returns-else-big
returns-else-big g c =
    let width = g.R.BitRegister.BITS in
    let at = g.O.BitAt.at_of in
    let number = g.R.BitRegister.number in
    let memory = c.args.memory.now in
    let range = c.bits_mut-range.result in
    let span = lent_span range in
    let many = length-list_of width at span (map number memory) in
    let edit = lent_edit range c.store_le.new.self span memory _ (λ xs. field_list false width g.O.Sequential.RISES span.head (length xs) c.args.number) refl c.bits_mut-range.ensures.memory (search rules) c.store_le.ensures.stored in
    rw c.if-big.false
    (stored_range width at false g.O.Sequential.RISES c.args.start c.args.count c.args.number _ span _ _ c.bits_mut-range.ensures.span many edit)
