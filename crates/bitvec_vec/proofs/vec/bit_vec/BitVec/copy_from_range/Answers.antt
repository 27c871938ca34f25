use Rattle.std.proofs.Common.{Bool, List, map, arith}
use Rattle.bitvec_slice.specs.BitSlice.{slice_memory, slice_bits}
use Rattle.bitvec_vec.specs.WithList.{with_list}
use Rattle.bitvec_vec.proofs.FrontLemmas.{length-front}
use Rattle.bitvec_vec.proofs.VecLemmas.{vec-put}
use Rattle.bitvec_vec.proofs.vec.bit_vec.BitVec.copy_from_range.Goals as goal

pub put_slice-requires-clause-inside : goal.put_slice-requires-clause-inside
put_slice-requires-clause-inside g c =
    let width = g.R.BitRegister.BITS in
    let at = g.O.BitAt.at_of in
    let number = g.R.BitRegister.number in
    let vec = c.args.self.now in
    let many = c.args.source.many (map g.R2.BitRegister.number (slice_memory c.args.source)) in
    omega (arith, c.requires, many, length-front width at vec.len (map number vec.words.items))

pub put_slice-requires-clause-room : goal.put_slice-requires-clause-room
put_slice-requires-clause-room g c = omega (arith, c.as_mut_slice.ensures.len, c.args.self.now.enough)

pub returns-clause-bits : goal.returns-clause-bits
returns-clause-bits g c =
    let width = g.R.BitRegister.BITS in
    let at = g.O.BitAt.at_of in
    let number = g.R.BitRegister.number in
    let vec = c.args.self.now in
    let from = c.args.from in
    let theirs = slice_bits c.args.source in
    vec-put width at number vec.len vec.words c.as_mut_slice.result.now c.put_slice.new.words c.as_mut_slice.ensures.value c.as_mut_slice.ensures.len
    (λ (xs : List Bool). with_list xs from theirs) c.put_slice.auto.words c.put_slice.ensures
