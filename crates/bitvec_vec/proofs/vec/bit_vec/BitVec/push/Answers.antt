use Rattle.std.proofs.Common.{◌+◌, ◌∙◌, List, Bool, map, arith}
use Rattle.std.specs.Prelude.{slice_set}
use Rattle.bitvec_vec.specs.BitVec.{vec_bits}
use Rattle.bitvec_vec.specs.Front.{front_bits}
use Rattle.bitvec_vec.proofs.FrontLemmas.{length-front, take-front}
use Rattle.bitvec_vec.proofs.GrowthLemmas.{pushed}
use Rattle.bitvec_vec.proofs.VecLemmas.{on_err, vec-put}
use Rattle.bitvec_vec.proofs.vec.bit_vec.BitVec.push.Goals as goal

pub returns-in_err-make_room-clause-full : goal.returns-in_err-make_room-clause-full
returns-in_err-make_room-clause-full g c =
    let width = g.R.BitRegister.BITS in
    let at = g.O.BitAt.at_of in
    let number = g.R.BitRegister.number in
    let vec = c.args.self.now in
    on_err c.from_residual.result (omega (arith, c.in_err-make_room.ensures.full, length-front width at vec.len (map number vec.words.items)))

pub returns-clause-bits : goal.returns-clause-bits
returns-clause-bits g c =
    let width = g.R.BitRegister.BITS in
    let at = g.O.BitAt.at_of in
    let number = g.R.BitRegister.number in
    let vec = c.args.self.now in
    let bit = c.args.bit in
    let old = map number vec.words.items in
    let new = map number c.make_room.new.words.items in
    let begins = take-front width at vec.len (vec.len + 1) new (omega arith) ∙ c.make_room.ensures.kept at in
    vec-put width at number (vec.len + 1) c.make_room.new.words c.as_mut_slice.result.now c.put_last.new.words c.as_mut_slice.ensures.value c.as_mut_slice.ensures.len
    (λ (xs : List Bool). slice_set xs vec.len bit) c.put_last.auto.words c.put_last.ensures
    ∙ pushed (vec_bits vec) (front_bits width at (vec.len + 1) new) vec.len (length-front width at vec.len old) begins bit (length-front width at (vec.len + 1) new)
