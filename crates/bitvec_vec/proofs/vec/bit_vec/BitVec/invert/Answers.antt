use Rattle.std.proofs.Common.{Bool, List, length, map, not, arith}
use Rattle.bitvec.specs.BitSpan.{span_of}
use Rattle.bitvec_vec.proofs.VecLemmas.{front-fits, vec-edited}
use Rattle.bitvec_vec.proofs.vec.bit_vec.BitVec.invert.Goals as goal

pub invert-requires : goal.invert-requires
invert-requires g c =
    let vec = c.args.self.now in
    front-fits g.R.BitRegister.BITS vec.len (length c.as_mut_slice.result.now) (span_of c.span_of_front-span.result) c.span_of_front-span.ensures.span (omega (arith, c.as_mut_slice.ensures.len, vec.enough))

pub returns-clause-bits : goal.returns-clause-bits
returns-clause-bits g c =
    let vec = c.args.self.now in
    let lent = c.as_mut_slice in
    vec-edited g.R.BitRegister.BITS g.O.BitAt.at_of g.R.BitRegister.number vec.len vec.words lent.result.now c.invert.new.memory lent.ensures.value lent.ensures.len (span_of c.span_of_front-span.result)
    (λ (xs : List Bool). map not xs) c.span_of_front-span.ensures.span c.invert.ensures
