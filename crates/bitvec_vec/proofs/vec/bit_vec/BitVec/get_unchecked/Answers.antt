use Rattle.std.proofs.Common.{length, Bool, List, map, ap, ◌∙◌, arith}
use Rattle.bitvec.specs.BitSpan.{span_of}
use Rattle.bitvec.specs.Span.{element}
use Rattle.bitvec_vec.proofs.FrontLemmas.{length-front}
use Rattle.bitvec_vec.proofs.VecLemmas.{front-fits, front-shown}
use Rattle.bitvec_vec.proofs.vec.bit_vec.BitVec.get_unchecked.Goals as goal

pub read-requires-clause-fits : goal.read-requires-clause-fits
read-requires-clause-fits g c =
    let vec = c.args.self.now in
    front-fits g.R.BitRegister.BITS vec.len (length c.as_slice.result.now) (span_of c.span_of_front-span.result) c.span_of_front-span.ensures.span (omega (arith, c.as_slice.ensures.len, vec.enough))

pub read-requires-clause-inside : goal.read-requires-clause-inside
read-requires-clause-inside g c =
    let width = g.R.BitRegister.BITS in
    let at = g.O.BitAt.at_of in
    let number = g.R.BitRegister.number in
    let vec = c.args.self.now in
    omega (arith, c.requires, c.span_of_front-span.ensures.len, length-front width at vec.len (map number vec.words.items))

pub returns : goal.returns
returns g c =
    let width = g.R.BitRegister.BITS in
    let at = g.O.BitAt.at_of in
    let number = g.R.BitRegister.number in
    let vec = c.args.self.now in
    c.read.ensures ∙ ap (λ (xs : List Bool). element xs c.args.i) (front-shown width at number vec.len vec.words.items c.as_slice.result.now (span_of c.span_of_front-span.result) c.span_of_front-span.ensures.span c.as_slice.ensures.value)
