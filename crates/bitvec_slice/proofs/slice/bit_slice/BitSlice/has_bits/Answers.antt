use Rattle.std.proofs.Common.{◌≡◌, length, true, arith}
use Rattle.bitvec.specs.Digit.{exclusive_or}
use Rattle.bitvec.specs.Memory.{zip_with}
use Rattle.bitvec_slice.specs.BitSlice.{slice_bits}
use Rattle.bitvec_slice.proofs.FindLemmas.{none_shows}
use Rattle.bitvec_slice.proofs.QuestionLemmas.{difference_shows}
use Rattle.bitvec_slice.proofs.slice.bit_slice.BitSlice.has_bits.Goals as goal

pub returns : goal.returns
returns g c =
    let xs = slice_bits c.args.self.now in
    let ys = slice_bits c.args.other.now in
    let long : length ys ≡ length xs = omega (arith, c.if-len.false, c.len.ensures.list, c.len-2.ensures.list) in
    let none = none_shows (zip_with exclusive_or xs ys) true c.first_with-first.result c.is_none.result c.is_none.ensures c.first_with-first.ensures in
    let same = difference_shows xs ys long in
    ((λ yes. same.0 (none.0 yes)), λ e. none.1 (same.1 e))
