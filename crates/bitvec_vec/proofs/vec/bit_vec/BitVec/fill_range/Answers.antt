use Rattle.std.proofs.Common.{◌≡◌, ◌-◌, Bool, List, ◌++◌, length, map, take, drop, replicate, ap, arith}
use Rattle.bitvec.specs.BitSpan.{span_of}
use Rattle.bitvec.specs.Span.{Span, list_of, with_filled}
use Rattle.bitvec.proofs.BecomesLemmas.{becomes-same, fits-numbers}
use Rattle.bitvec_vec.proofs.FrontLemmas.{length-front}
use Rattle.bitvec_vec.proofs.VecLemmas.{front-fits, vec-edited}
use Rattle.bitvec_vec.proofs.vec.bit_vec.BitVec.fill_range.Goals as goal

pub range-requires-clause-inside : goal.range-requires-clause-inside
range-requires-clause-inside g c =
    let width = g.R.BitRegister.BITS in
    let at = g.O.BitAt.at_of in
    let number = g.R.BitRegister.number in
    let vec = c.args.self.now in
    omega (arith, c.requires.inside, c.span_of_front-span.ensures.len, length-front width at vec.len (map number vec.words.items))

pub fill-requires : goal.fill-requires
fill-requires g c =
    let vec = c.args.self.now in
    c.range.ensures.fit (length c.as_mut_slice.result.now) (front-fits g.R.BitRegister.BITS vec.len (length c.as_mut_slice.result.now) (span_of c.span_of_front-span.result) c.span_of_front-span.ensures.span (omega (arith, c.as_mut_slice.ensures.len, vec.enough)))

pub returns-clause-bits : goal.returns-clause-bits
returns-clause-bits g c =
    let width = g.R.BitRegister.BITS in
    let at = g.O.BitAt.at_of in
    let number = g.R.BitRegister.number in
    let vec = c.args.self.now in
    let lent = c.as_mut_slice in
    let span = span_of c.span_of_front-span.result in
    let part = span_of c.range.result in
    let new = map number c.fill.new.memory in
    let old = map number lent.result.now in
    let from = c.args.from in
    let to = c.args.to in
    let xs = list_of width at span old in
    let fits = fits-numbers width span number lent.result.now (front-fits width vec.len (length lent.result.now) span c.span_of_front-span.ensures.span (omega (arith, lent.ensures.len, vec.enough))) in
    let whole = c.range.ensures.edits at old new (replicate part.len c.args.bit) fits c.fill.ensures in
    let many : part.len ≡ to - from = ap (λ (s : Span). s.len) c.range.ensures.span in
    let edit = becomes-same width at span old new _ _ (ap (λ n. take from xs ++ replicate n c.args.bit ++ drop to xs) many) whole in
    vec-edited width at number vec.len vec.words lent.result.now c.fill.new.memory lent.ensures.value lent.ensures.len span (λ (us : List Bool). with_filled us from to c.args.bit) c.span_of_front-span.ensures.span edit
