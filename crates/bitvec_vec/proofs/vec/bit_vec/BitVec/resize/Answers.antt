use Rattle.std.proofs.Common.{◌≡◌, ◌+◌, ◌-◌, ◌∙◌, ◌++◌, Bool, List, length, map, take, replicate, sym, ap, arith}
use Rattle.std.proofs.lemmas.List.{append-nil, take_all}
use Rattle.bitvec_slice.specs.Ranges.{with_range}
use Rattle.bitvec_vec.specs.BitVec.{vec_bits}
use Rattle.bitvec_vec.proofs.FrontLemmas.{length-front}
use Rattle.bitvec_vec.proofs.GrowthLemmas.{not-grown, extended}
use Rattle.bitvec_vec.proofs.VecLemmas.{on_err, refused}
use Rattle.bitvec_vec.proofs.vec.bit_vec.BitVec.resize.Goals as goal

pub returns-then-len-from-clause-bits : goal.returns-then-len-from-clause-bits
returns-then-len-from-clause-bits g c =
    let width = g.R.BitRegister.BITS in
    let at = g.O.BitAt.at_of in
    let number = g.R.BitRegister.number in
    let vec = c.args.self.now in
    let xs = vec_bits vec in
    let none : c.args.len - length xs ≡ 0 = omega (arith, c.if-len-from.true, length-front width at vec.len (map number vec.words.items)) in
    c.truncate.ensures.bits ∙ sym (append-nil (take c.args.len xs)) ∙ ap (λ n. take c.args.len xs ++ replicate n c.args.bit) (sym none)

pub returns-in_err-lengthen-clause-bits : goal.returns-in_err-lengthen-clause-bits
returns-in_err-lengthen-clause-bits g c =
    refused c.from_residual.result c.from_residual.ensures.0 _ _ _ (not-grown (vec_bits c.args.self.now) (vec_bits c.lengthen.new.self) c.in_err-lengthen.ensures.len c.in_err-lengthen.ensures.begins)

pub returns-in_err-lengthen-clause-full : goal.returns-in_err-lengthen-clause-full
returns-in_err-lengthen-clause-full g c =
    let width = g.R.BitRegister.BITS in
    let at = g.O.BitAt.at_of in
    let number = g.R.BitRegister.number in
    let vec = c.args.self.now in
    on_err c.from_residual.result (omega (arith, c.in_err-lengthen.ensures.full, c.if-len-from.false, length-front width at vec.len (map number vec.words.items)))

pub returns-in_err-lengthen-clause-refused : goal.returns-in_err-lengthen-clause-refused
returns-in_err-lengthen-clause-refused g c = on_err c.from_residual.result c.in_err-lengthen.ensures.refused

pub fill_range-requires-clause-inside : goal.fill_range-requires-clause-inside
fill_range-requires-clause-inside g c =
    let width = g.R.BitRegister.BITS in
    let at = g.O.BitAt.at_of in
    let number = g.R.BitRegister.number in
    let vec = c.args.self.now in
    omega (arith, c.in_ok-lengthen.ensures.len, c.if-len-from.false, length-front width at vec.len (map number vec.words.items))

pub returns-clause-bits : goal.returns-clause-bits
returns-clause-bits g c =
    let width = g.R.BitRegister.BITS in
    let at = g.O.BitAt.at_of in
    let number = g.R.BitRegister.number in
    let vec = c.args.self.now in
    let xs = vec_bits vec in
    let zs = vec_bits c.lengthen.new.self in
    let len = c.args.len in
    let count = len - vec.len in
    let long = length-front width at vec.len (map number vec.words.items) in
    let begins = ap (λ n. take n zs) (sym long) ∙ c.in_ok-lengthen.ensures.begins in
    let whole : len ≡ vec.len + (len - vec.len) = omega (arith, c.if-len-from.false) in
    c.fill_range.ensures.bits
    ∙ ap (λ n. with_range zs vec.len n (replicate count c.args.bit)) whole
    ∙ extended xs zs vec.len long begins (replicate count c.args.bit) count (omega (arith, c.in_ok-lengthen.ensures.len, long))
    ∙ ap (λ (us : List Bool). us ++ replicate count c.args.bit) (sym (take_all len xs (omega (arith, c.if-len-from.false, long))))
    ∙ ap (λ n. take len xs ++ replicate (len - n) c.args.bit) (sym long)
