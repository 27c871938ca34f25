use Rattle.std.proofs.Common.{◌≡◌, ◌&&◌, length, map, not, true, arith}
use Rattle.bitvec.specs.Memory.{zip_with}
use Rattle.bitvec.proofs.PartLemmas.{length-list_of}
use Rattle.bitvec_slice.specs.BitSlice.{slice_bits, slice_span, slice_memory}
use Rattle.bitvec_slice.proofs.FindLemmas.{none_shows}
use Rattle.bitvec_slice.proofs.QuestionLemmas.{subset_shows}
use Rattle.bitvec_slice.proofs.slice.bit_slice.BitSlice.is_subset.Goals as goal

pub returns : goal.returns
returns g c =
    let here = c.args.self.now in
    let there = c.args.other.now in
    let xs = slice_bits here in
    let ys = slice_bits there in
    let ours = length-list_of g.R.BitRegister.BITS g.O.BitAt.at_of (slice_span here) (map g.R.BitRegister.number (slice_memory here)) in
    let theirs = length-list_of g.R2.BitRegister.BITS g.O2.BitAt.at_of (slice_span there) (map g.R2.BitRegister.number (slice_memory there)) in
    let long : length ys ≡ length xs = omega (arith, c.requires, ours, theirs) in
    let none = none_shows (zip_with (λ x y. x && not y) xs ys) true c.first_and_not.result c.is_none.result c.is_none.ensures c.first_and_not.ensures in
    let pairs = subset_shows xs ys long in
    ((λ yes. pairs.0 (none.0 yes)), λ all. none.1 (pairs.1 all))
