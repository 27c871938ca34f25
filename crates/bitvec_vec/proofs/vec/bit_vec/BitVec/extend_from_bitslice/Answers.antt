use Rattle.std.proofs.Common.{◌∙◌, length, map, take, sym, ap, arith}
use Rattle.bitvec_slice.specs.BitSlice.{slice_bits}
use Rattle.bitvec_vec.specs.BitVec.{vec_bits}
use Rattle.bitvec_vec.proofs.FrontLemmas.{length-front}
use Rattle.bitvec_vec.proofs.GrowthLemmas.{not-grown, extended}
use Rattle.bitvec_vec.proofs.VecLemmas.{on_err, refused}
use Rattle.bitvec_vec.proofs.vec.bit_vec.BitVec.extend_from_bitslice.Goals as goal

pub returns-in_err-lengthen-clause-bits : goal.returns-in_err-lengthen-clause-bits
returns-in_err-lengthen-clause-bits g c =
    refused c.from_residual.result c.from_residual.ensures.0 _ _ _ (not-grown (vec_bits c.args.self.now) (vec_bits c.lengthen.new.self) c.in_err-lengthen.ensures.len c.in_err-lengthen.ensures.begins)

pub returns-in_err-lengthen-clause-full : goal.returns-in_err-lengthen-clause-full
returns-in_err-lengthen-clause-full g c = on_err c.from_residual.result (omega (arith, c.in_err-lengthen.ensures.full, c.len.ensures.list))

pub returns-in_err-lengthen-clause-refused : goal.returns-in_err-lengthen-clause-refused
returns-in_err-lengthen-clause-refused g c = on_err c.from_residual.result c.in_err-lengthen.ensures.refused

pub copy_from_range-requires : goal.copy_from_range-requires
copy_from_range-requires g c =
    let width = g.R.BitRegister.BITS in
    let at = g.O.BitAt.at_of in
    let number = g.R.BitRegister.number in
    let vec = c.args.self.now in
    omega (arith, c.in_ok-lengthen.ensures.len, c.len.ensures.list, length-front width at vec.len (map number vec.words.items))

pub returns-clause-bits : goal.returns-clause-bits
returns-clause-bits g c =
    let width = g.R.BitRegister.BITS in
    let at = g.O.BitAt.at_of in
    let number = g.R.BitRegister.number in
    let vec = c.args.self.now in
    let xs = vec_bits vec in
    let zs = vec_bits c.lengthen.new.self in
    let ys = slice_bits c.args.slice in
    let long = length-front width at vec.len (map number vec.words.items) in
    let begins = ap (λ n. take n zs) (sym long) ∙ c.in_ok-lengthen.ensures.begins in
    c.copy_from_range.ensures.bits
    ∙ extended xs zs vec.len long begins ys (length ys) (omega (arith, c.in_ok-lengthen.ensures.len, c.len.ensures.list, long))
