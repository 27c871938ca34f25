use Rattle.std.proofs.Common.{Bool, List, length, map, arith}
use Rattle.bitvec.specs.BitSpan.{span_of}
use Rattle.bitvec_vec.proofs.FrontLemmas.{length-front}
use Rattle.bitvec_vec.proofs.VecLemmas.{front-fits, vec-edited}
use Rattle.std.specs.Prelude.{slice_set}
use Rattle.bitvec_vec.proofs.vec.bit_vec.BitVec.set.Goals as goal

pub write-requires-clause-fits : goal.write-requires-clause-fits
write-requires-clause-fits g c =
    let vec = c.args.self.now in
    front-fits g.R.BitRegister.BITS vec.len (length c.as_mut_slice.result.now) (span_of c.span_of_front-span.result) c.span_of_front-span.ensures.span (omega (arith, c.as_mut_slice.ensures.len, vec.enough))

pub write-requires-clause-inside : goal.write-requires-clause-inside
write-requires-clause-inside g c =
    let width = g.R.BitRegister.BITS in
    let at = g.O.BitAt.at_of in
    let number = g.R.BitRegister.number in
    let vec = c.args.self.now in
    omega (arith, c.requires, c.span_of_front-span.ensures.len, length-front width at vec.len (map number vec.words.items))

pub returns-clause-bits : goal.returns-clause-bits
returns-clause-bits g c =
    let width = g.R.BitRegister.BITS in
    let at = g.O.BitAt.at_of in
    let number = g.R.BitRegister.number in
    let vec = c.args.self.now in
    let lent = c.as_mut_slice in
    vec-edited width at number vec.len vec.words lent.result.now c.write.new.memory lent.ensures.value lent.ensures.len (span_of c.span_of_front-span.result)
    (λ (xs : List Bool). slice_set xs c.args.i c.args.bit) c.span_of_front-span.ensures.span c.write.ensures
