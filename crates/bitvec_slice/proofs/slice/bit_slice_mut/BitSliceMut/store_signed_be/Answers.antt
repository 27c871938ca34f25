use Rattle.std.proofs.Common.{true, length, rules, arith}
use Rattle.std.specs.Prelude.{FitsSigned}
use Rattle.std.specs.Int.{w128}
use Rattle.bitvec.proofs.PartLemmas.{length-list_of}
use Rattle.bitvec_slice.specs.BitSliceMut.{lent_span, lent_words, lent_bits}
use Rattle.bitvec_slice.proofs.FieldStoreLemmas.{field_list_low}
use Rattle.bitvec_slice.proofs.SignedLemmas.{low_digits, loaded_back}
use Rattle.bitvec_slice.proofs.slice.bit_slice_mut.BitSliceMut.store_signed_be.Goals as goal

pub returns-clause-stored : goal.returns-clause-stored
returns-clause-stored g c =
    let slice = c.args.self.now in
    let eight = g.met.R.BitRegister.width_at_least_8 in
    let most = g.met.N.SignedNumber.width_at_most_128 in
    let count = length-list_of g.R.BitRegister.BITS g.O.BitAt.at_of (lent_span slice) (lent_words slice) in
    let fits : FitsSigned w128 c.to_i128.result = search rules in
    let low = low_digits (length (lent_bits slice)) c.cast_unsigned.result c.to_i128.result (g.N.SignedNumber.number c.args.value) (omega (arith, count, c.requires, most)) fits c.cast_unsigned.ensures c.to_i128.ensures.number in
    rw (field_list_low true g.O.Sequential.RISES g.R.BitRegister.BITS (lent_span slice).head (length (lent_bits slice)) c.cast_unsigned.result _ (omega (arith, eight)) (omega (arith, slice.in_word, eight)) low) at c.store_be.ensures.stored

pub returns-clause-loaded : goal.returns-clause-loaded
returns-clause-loaded g c = λ has.
    let slice = c.args.self.now in
    let most = g.met.N.SignedNumber.width_at_most_128 in
    let count = length-list_of g.R.BitRegister.BITS g.O.BitAt.at_of (lent_span slice) (lent_words slice) in
    let fits : FitsSigned w128 c.to_i128.result = search rules in
    let low = low_digits (length (lent_bits slice)) c.cast_unsigned.result c.to_i128.result (g.N.SignedNumber.number c.args.value) (omega (arith, count, c.requires, most)) fits c.cast_unsigned.ensures c.to_i128.ensures.number in
    loaded_back (length (lent_bits slice)) c.cast_unsigned.result _ (g.N.SignedNumber.number c.args.value) c.store_be.ensures.loaded low has
