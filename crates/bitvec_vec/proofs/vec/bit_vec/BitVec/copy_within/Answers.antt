use Rattle.std.proofs.Common.{◌-◌, Bool, List, length, map, arith}
use Rattle.bitvec.specs.BitSpan.{span_of}
use Rattle.bitvec_vec.proofs.FrontLemmas.{length-front}
use Rattle.bitvec_vec.proofs.VecLemmas.{front-fits, vec-edited}
use Rattle.bitvec.specs.Memory.{list_with_copy}
use Rattle.bitvec_vec.proofs.vec.bit_vec.BitVec.copy_within.Goals as goal

pub copy_within-requires-clause-fits : goal.copy_within-requires-clause-fits
copy_within-requires-clause-fits g c =
    let vec = c.args.self.now in
    front-fits g.R.BitRegister.BITS vec.len (length c.as_mut_slice.result.now) (span_of c.span_of_front-span.result) c.span_of_front-span.ensures.span (omega (arith, c.as_mut_slice.ensures.len, vec.enough))

pub copy_within-requires-clause-source_inside : goal.copy_within-requires-clause-source_inside
copy_within-requires-clause-source_inside g c =
    let width = g.R.BitRegister.BITS in
    let at = g.O.BitAt.at_of in
    let number = g.R.BitRegister.number in
    let vec = c.args.self.now in
    omega (arith, c.requires, c.span_of_front-span.ensures.len, length-front width at vec.len (map number vec.words.items))

pub copy_within-requires-clause-target_inside : goal.copy_within-requires-clause-target_inside
copy_within-requires-clause-target_inside g c =
    let width = g.R.BitRegister.BITS in
    let at = g.O.BitAt.at_of in
    let number = g.R.BitRegister.number in
    let vec = c.args.self.now in
    omega (arith, c.requires, c.span_of_front-span.ensures.len, length-front width at vec.len (map number vec.words.items))

pub returns-clause-bits : goal.returns-clause-bits
returns-clause-bits g c =
    let width = g.R.BitRegister.BITS in
    let at = g.O.BitAt.at_of in
    let number = g.R.BitRegister.number in
    let vec = c.args.self.now in
    let lent = c.as_mut_slice in
    vec-edited width at number vec.len vec.words lent.result.now c.copy_within.new.memory lent.ensures.value lent.ensures.len (span_of c.span_of_front-span.result)
    (λ (xs : List Bool). list_with_copy xs c.args.src.start xs c.args.dest (c.args.src.end - c.args.src.start)) c.span_of_front-span.ensures.span c.copy_within.ensures
