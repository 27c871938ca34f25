use Rattle.std.proofs.Common.{Bool, List, length, map, replicate, ap, sym, arith}
use Rattle.bitvec.specs.BitSpan.{span_of}
use Rattle.bitvec.proofs.BecomesLemmas.{becomes-same}
use Rattle.bitvec.proofs.PartLemmas.{length-list_of}
use Rattle.bitvec_vec.proofs.VecLemmas.{front-fits, vec-edited}
use Rattle.bitvec_vec.proofs.vec.bit_vec.BitVec.fill.Goals as goal

pub fill-requires : goal.fill-requires
fill-requires g c =
    let vec = c.args.self.now in
    front-fits g.R.BitRegister.BITS vec.len (length c.as_mut_slice.result.now) (span_of c.span_of_front-span.result) c.span_of_front-span.ensures.span (omega (arith, c.as_mut_slice.ensures.len, vec.enough))

pub returns-clause-bits : goal.returns-clause-bits
returns-clause-bits g c =
    let width = g.R.BitRegister.BITS in
    let at = g.O.BitAt.at_of in
    let number = g.R.BitRegister.number in
    let vec = c.args.self.now in
    let lent = c.as_mut_slice in
    let span = span_of c.span_of_front-span.result in
    let new = c.fill.new.memory in
    let old = map number lent.result.now in
    let edit = becomes-same width at span old (map number new) _ _ (ap (λ n. replicate n c.args.bit) (sym (length-list_of width at span old))) c.fill.ensures in
    vec-edited width at number vec.len vec.words lent.result.now new lent.ensures.value lent.ensures.len span (λ (xs : List Bool). replicate (length xs) c.args.bit) c.span_of_front-span.ensures.span edit
