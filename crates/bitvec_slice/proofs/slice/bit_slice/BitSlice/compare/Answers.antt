use Rattle.std.proofs.Common.{map, sym, ◌∙◌, arith}
use Rattle.std.specs.Ordering.{bool_cmp, nat_cmp}
use Rattle.bitvec.specs.Digit.{exclusive_or}
use Rattle.bitvec.proofs.PartLemmas.{length-list_of}
use Rattle.bitvec_slice.specs.BitSlice.{slice_bits, slice_span, slice_memory}
use Rattle.bitvec_slice.proofs.QuestionLemmas.{ordered_by_first, ordered_by_length}
use Rattle.bitvec_slice.proofs.SetLemmas.{most-zip_with}
use Rattle.bitvec_slice.proofs.slice.bit_slice.BitSlice.compare.Goals as goal

pub get_unchecked-requires : goal.get_unchecked-requires
get_unchecked-requires g c =
    let here = c.args.self.now in
    let long = length-list_of g.R.BitRegister.BITS g.O.BitAt.at_of (slice_span here) (map g.R.BitRegister.number (slice_memory here)) in
    let most = most-zip_with exclusive_or (slice_bits here) (slice_bits c.args.other.now) in
    omega (arith, c.in-Some.ensures.0, most.0, long)

pub get_unchecked-requires-in-Some : goal.get_unchecked-requires-in-Some
get_unchecked-requires-in-Some g c =
    let there = c.args.other.now in
    let long = length-list_of g.R2.BitRegister.BITS g.O2.BitAt.at_of (slice_span there) (map g.R2.BitRegister.number (slice_memory there)) in
    let most = most-zip_with exclusive_or (slice_bits c.args.self.now) (slice_bits there) in
    omega (arith, c.in-Some.ensures.0, most.1, long)

pub returns-in-Some : goal.returns-in-Some
returns-in-Some g c =
    c.cmp.ensures
    ∙ (λ m. bool_cmp (c.get_unchecked.ensures m) (c.get_unchecked-in-Some.ensures m))
    ∙ sym (ordered_by_first (slice_bits c.args.self.now) (slice_bits c.args.other.now) c.in-Some.i c.in-Some.ensures)

pub returns-in-None : goal.returns-in-None
returns-in-None g c =
    c.cmp-in-None.ensures
    ∙ (λ m. nat_cmp (c.len.ensures.list m) (c.len-in-None.ensures.list m))
    ∙ sym (ordered_by_length (slice_bits c.args.self.now) (slice_bits c.args.other.now) c.in-None.ensures)
