use Rattle.std.proofs.Common.{length, map, ◌∙◌, sym, ap, arith}
use Rattle.bitvec.specs.BitSpan.{span_of}
use Rattle.bitvec.specs.Span.{front_span}
use Rattle.bitvec_vec.proofs.FrontLemmas.{length-front}
use Rattle.bitvec_vec.proofs.VecLemmas.{front-fits, front-shown}
use Rattle.bitvec_vec.proofs.vec.bit_vec.BitVec.as_bitslice.Goals as goal

pub new_unchecked-requires : goal.new_unchecked-requires
new_unchecked-requires g c =
    let vec = c.args.self.now in
    front-fits g.R.BitRegister.BITS vec.len (length c.as_slice.result.now) (span_of c.span_of_front.result) c.span_of_front.ensures.span (omega (arith, c.as_slice.ensures.len, vec.enough))

pub returns-clause-span : goal.returns-clause-span
returns-clause-span g c =
    let vec = c.args.self.now in
    let words = map g.R.BitRegister.number vec.words.items in
    c.new_unchecked.ensures.span
    ∙ c.span_of_front.ensures.span
    ∙ ap front_span (sym (length-front g.R.BitRegister.BITS g.O.BitAt.at_of vec.len words))

pub returns-clause-bits : goal.returns-clause-bits
returns-clause-bits g c =
    let vec = c.args.self.now in
    c.new_unchecked.ensures.bits
    ∙ front-shown g.R.BitRegister.BITS g.O.BitAt.at_of g.R.BitRegister.number vec.len vec.words.items c.as_slice.result.now (span_of c.span_of_front.result) c.span_of_front.ensures.span c.as_slice.ensures.value
