use Rattle.std.proofs.Common.{◌+◌, ◌-◌, ◌∙◌, Bool, List, length, map, take, sym, ap, arith}
use Rattle.std.specs.Prelude.{slice_set}
use Rattle.bitvec.proofs.CopyLemmas.{length-copied}
use Rattle.bitvec_vec.specs.BitVec.{vec_bits}
use Rattle.bitvec_vec.proofs.FrontLemmas.{length-front}
use Rattle.bitvec_vec.proofs.GrowthLemmas.{not-grown, inserted}
use Rattle.bitvec_vec.proofs.VecLemmas.{on_err, refused}
use Rattle.bitvec_vec.proofs.vec.bit_vec.BitVec.insert.Goals as goal

pub returns-in_err-lengthen-clause-bits : goal.returns-in_err-lengthen-clause-bits
returns-in_err-lengthen-clause-bits g c =
    refused c.from_residual.result c.from_residual.ensures.0 _ _ _ (not-grown (vec_bits c.args.self.now) (vec_bits c.lengthen.new.self) c.in_err-lengthen.ensures.len c.in_err-lengthen.ensures.begins)

pub returns-in_err-lengthen-clause-full : goal.returns-in_err-lengthen-clause-full
returns-in_err-lengthen-clause-full g c = on_err c.from_residual.result (omega (arith, c.in_err-lengthen.ensures.full))

pub returns-in_err-lengthen-clause-refused : goal.returns-in_err-lengthen-clause-refused
returns-in_err-lengthen-clause-refused g c = on_err c.from_residual.result c.in_err-lengthen.ensures.refused

pub copy_within-requires-clause-ordered : goal.copy_within-requires-clause-ordered
copy_within-requires-clause-ordered g c =
    let width = g.R.BitRegister.BITS in
    let at = g.O.BitAt.at_of in
    let number = g.R.BitRegister.number in
    let vec = c.args.self.now in
    omega (arith, c.requires, length-front width at vec.len (map number vec.words.items))

pub copy_within-requires-clause-source_inside : goal.copy_within-requires-clause-source_inside
copy_within-requires-clause-source_inside g c =
    let width = g.R.BitRegister.BITS in
    let at = g.O.BitAt.at_of in
    let number = g.R.BitRegister.number in
    let vec = c.args.self.now in
    omega (arith, c.in_ok-lengthen.ensures.len, length-front width at vec.len (map number vec.words.items))

pub copy_within-requires-clause-target_inside : goal.copy_within-requires-clause-target_inside
copy_within-requires-clause-target_inside g c =
    let width = g.R.BitRegister.BITS in
    let at = g.O.BitAt.at_of in
    let number = g.R.BitRegister.number in
    let vec = c.args.self.now in
    omega (arith, c.requires, c.in_ok-lengthen.ensures.len, length-front width at vec.len (map number vec.words.items))

pub set-requires : goal.set-requires
set-requires g c =
    let width = g.R.BitRegister.BITS in
    let at = g.O.BitAt.at_of in
    let number = g.R.BitRegister.number in
    let vec = c.args.self.now in
    let zs = vec_bits c.lengthen.new.self in
    let i = c.args.i in
    let longer = c.in_ok-lengthen.ensures.len in
    let long = length-front width at vec.len (map number vec.words.items) in
    omega (arith, c.requires, long, longer, ap length c.copy_within.ensures.bits, length-copied zs i zs (i + 1) (vec.len - i) (omega (arith, c.requires, long, longer)) (omega (arith, c.requires, long, longer)))

pub returns-clause-bits : goal.returns-clause-bits
returns-clause-bits g c =
    let width = g.R.BitRegister.BITS in
    let at = g.O.BitAt.at_of in
    let number = g.R.BitRegister.number in
    let vec = c.args.self.now in
    let xs = vec_bits vec in
    let zs = vec_bits c.lengthen.new.self in
    let i = c.args.i in
    let long = length-front width at vec.len (map number vec.words.items) in
    let begins = ap (λ n. take n zs) (sym long) ∙ c.in_ok-lengthen.ensures.begins in
    c.set.ensures.bits
    ∙ ap (λ (us : List Bool). slice_set us i c.args.bit) c.copy_within.ensures.bits
    ∙ inserted xs zs vec.len long begins c.args.bit i (omega (arith, c.in_ok-lengthen.ensures.len, long)) (omega (arith, c.requires, long))

pub overflow_add-i : goal.overflow_add-i
overflow_add-i g c =
    let width = g.R.BitRegister.BITS in
    let at = g.O.BitAt.at_of in
    let number = g.R.BitRegister.number in
    let vec = c.args.self.now in
    omega (arith, c.requires, vec.short, length-front width at vec.len (map number vec.words.items))
