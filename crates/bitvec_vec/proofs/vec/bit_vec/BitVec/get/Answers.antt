use Rattle.std.proofs.Common.{false, Some, map, sym, ap, ◌∙◌, arith}
use Rattle.std.proofs.lemmas.Option.{slice_get-get_or, slice_get_past}
use Rattle.bitvec_vec.specs.BitVec.{vec_bits}
use Rattle.bitvec_vec.proofs.FrontLemmas.{length-front}
use Rattle.bitvec_vec.proofs.vec.bit_vec.BitVec.get.Goals as goal

pub get_unchecked-requires : goal.get_unchecked-requires
get_unchecked-requires g c =
    let width = g.R.BitRegister.BITS in
    let at = g.O.BitAt.at_of in
    let number = g.R.BitRegister.number in
    let vec = c.args.self.now in
    omega (arith, c.if-i-self.true, length-front width at vec.len (map number vec.words.items))

pub returns-then-i-self : goal.returns-then-i-self
returns-then-i-self g c =
    let width = g.R.BitRegister.BITS in
    let at = g.O.BitAt.at_of in
    let number = g.R.BitRegister.number in
    let vec = c.args.self.now in
    let long = length-front width at vec.len (map number vec.words.items) in
    ap Some c.get_unchecked.ensures ∙ sym (slice_get-get_or (vec_bits vec) c.args.i false (omega (arith, c.if-i-self.true, long)))

pub returns-else-i-self : goal.returns-else-i-self
returns-else-i-self g c =
    let width = g.R.BitRegister.BITS in
    let at = g.O.BitAt.at_of in
    let number = g.R.BitRegister.number in
    let vec = c.args.self.now in
    let long = length-front width at vec.len (map number vec.words.items) in
    sym (slice_get_past (vec_bits vec) c.args.i (omega (arith, c.if-i-self.false, long)))
