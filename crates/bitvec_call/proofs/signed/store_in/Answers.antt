use Rattle.std.proofs.Common.{true, false, length, map, refl, to_z-of_z, FitsSigned, rules}
use Rattle.std.specs.Int.{w64}
use mir.Val.{to_z, of_z}
use Rattle.bitvec.proofs.PartLemmas.{length-list_of}
use Rattle.bitvec_slice.specs.BitSliceMut.{lent_span}
use Rattle.bitvec_slice.proofs.LentLemmas.{lent_edit}
use Rattle.bitvec_slice.specs.Field.{field_list}
use Rattle.bitvec_slice.specs.Signed.{complement_of}
use Rattle.bitvec_call.proofs.SignedRangeLemmas.{stored_signed}
use Rattle.bitvec_call.proofs.signed.store_in.Goals as goal

pub returns-then-big : goal.returns-then-big
returns-then-big g c =
    let width = g.R.BitRegister.BITS in
    let at = g.O.BitAt.at_of in
    let number = g.R.BitRegister.number in
    let memory = c.args.memory.now in
    let range = c.bits_mut-range.result in
    let span = lent_span range in
    let many = length-list_of width at span (map number memory) in
    let z = to_z w64 (of_z w64 c.args.number) in
    let edit = lent_edit range c.store_signed_be.new.self span memory _ (λ xs. field_list true width g.O.Sequential.RISES span.head (length xs) (complement_of (length xs) z)) refl c.bits_mut-range.ensures.memory (search rules) c.store_signed_be.ensures.stored in
    let fits : FitsSigned w64 c.args.number = search rules in
    rw (c.if-big.true, ← to_z-of_z {w = w64} {z = c.args.number} fits)
    (stored_signed width at true g.O.Sequential.RISES c.args.start c.args.count _ _ span _ _ c.bits_mut-range.ensures.span many edit)

pub returns-else-big : goal.returns-else-big
returns-else-big g c =
    let width = g.R.BitRegister.BITS in
    let at = g.O.BitAt.at_of in
    let number = g.R.BitRegister.number in
    let memory = c.args.memory.now in
    let range = c.bits_mut-range.result in
    let span = lent_span range in
    let many = length-list_of width at span (map number memory) in
    let z = to_z w64 (of_z w64 c.args.number) in
    let edit = lent_edit range c.store_signed_le.new.self span memory _ (λ xs. field_list false width g.O.Sequential.RISES span.head (length xs) (complement_of (length xs) z)) refl c.bits_mut-range.ensures.memory (search rules) c.store_signed_le.ensures.stored in
    let fits : FitsSigned w64 c.args.number = search rules in
    rw (c.if-big.false, ← to_z-of_z {w = w64} {z = c.args.number} fits)
    (stored_signed width at false g.O.Sequential.RISES c.args.start c.args.count _ _ span _ _ c.bits_mut-range.ensures.span many edit)
