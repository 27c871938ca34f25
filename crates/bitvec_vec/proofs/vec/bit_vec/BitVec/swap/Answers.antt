use Rattle.std.proofs.Common.{Bool, List, length, map, arith}
use Rattle.bitvec.specs.BitSpan.{span_of}
use Rattle.bitvec_vec.proofs.FrontLemmas.{length-front}
use Rattle.bitvec_vec.proofs.VecLemmas.{front-fits, vec-edited}
use Rattle.std.specs.List.{swap}
use Rattle.bitvec_vec.proofs.vec.bit_vec.BitVec.swap.Goals as goal

pub swap-requires-clause-fits : goal.swap-requires-clause-fits
swap-requires-clause-fits g c =
    let vec = c.args.self.now in
    front-fits g.R.BitRegister.BITS vec.len (length c.as_mut_slice.result.now) (span_of c.span_of_front-span.result) c.span_of_front-span.ensures.span (omega (arith, c.as_mut_slice.ensures.len, vec.enough))

pub swap-requires-clause-first : goal.swap-requires-clause-first
swap-requires-clause-first g c =
    let width = g.R.BitRegister.BITS in
    let at = g.O.BitAt.at_of in
    let number = g.R.BitRegister.number in
    let vec = c.args.self.now in
    omega (arith, c.requires.first, c.span_of_front-span.ensures.len, length-front width at vec.len (map number vec.words.items))

pub swap-requires-clause-second : goal.swap-requires-clause-second
swap-requires-clause-second g c =
    let width = g.R.BitRegister.BITS in
    let at = g.O.BitAt.at_of in
    let number = g.R.BitRegister.number in
    let vec = c.args.self.now in
    omega (arith, c.requires.second, c.span_of_front-span.ensures.len, length-front width at vec.len (map number vec.words.items))

pub returns-clause-bits : goal.returns-clause-bits
returns-clause-bits g c =
    let width = g.R.BitRegister.BITS in
    let at = g.O.BitAt.at_of in
    let number = g.R.BitRegister.number in
    let vec = c.args.self.now in
    let lent = c.as_mut_slice in
    vec-edited width at number vec.len vec.words lent.result.now c.swap.new.memory lent.ensures.value lent.ensures.len (span_of c.span_of_front-span.result)
    (λ (xs : List Bool). swap xs c.args.i c.args.j) c.span_of_front-span.ensures.span c.swap.ensures
