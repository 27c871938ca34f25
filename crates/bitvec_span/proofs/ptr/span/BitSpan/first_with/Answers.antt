use Rattle.std.proofs.Common.{◌+◌, length, map, sym, ◌∙◌}
use Rattle.bitvec_ptr.specs.BitPtr.{ptr_of}
use Rattle.bitvec_ptr.specs.Memory.{bit_of}
use Rattle.bitvec_ptr.specs.Pairs.{pair_by}
use Rattle.bitvec_ptr.specs.Place.{memory_place}
use Rattle.bitvec_span.specs.BitSpan.{span_of}
use Rattle.bitvec_span.proofs.PairSpanLemmas.{ArePairs, pairs_match}
use Rattle.bitvec_span.proofs.PointerLemmas.{range-in}
use Rattle.bitvec_span.proofs.ptr.span.BitSpan.first_with.Goals as goal

pub first_with-requires-clause-here : goal.first_with-requires-clause-here
first_with-requires-clause-here g c =
    range-in g.R.BitRegister.BITS (length c.args.memory.now) c.len.result (span_of c.args.self) (ptr_of c.to_bitptr-from.result) c.to_bitptr-from.ensures.pointer c.len.ensures c.requires.fits

pub first_with-requires-clause-there : goal.first_with-requires-clause-there
first_with-requires-clause-there g c =
    range-in g.R2.BitRegister.BITS (length c.args.other_memory.now) c.len.result (span_of c.args.other) (ptr_of c.to_bitptr.result) c.to_bitptr.ensures.pointer (c.len.ensures ∙ sym c.requires.same) c.requires.other_fits

pub returns : goal.returns
returns g c =
    let R = g.R.BitRegister in
    let R2 = g.R2.BitRegister in
    let f = g.C.Combine.of in
    let at = g.O.BitAt.at_of in
    let at2 = g.O2.BitAt.at_of in
    let words = map R.number c.args.memory.now in
    let others = map R2.number c.args.other_memory.now in
    let from = c.to_bitptr-from in
    let to = c.to_bitptr in
    let pair = pair_by f from.result at c.args.memory.now to.result at2 c.args.other_memory.now in
    let are : ArePairs f R.BITS at (span_of c.args.self) words R2.BITS at2 (span_of c.args.other) others pair c.len.result =
    record {
      same = c.requires.same;
      all = c.len.ensures;
      pairs = λ j m. f (bit_of R.BITS at words (memory_place R.BITS (from.ensures.pointer m) + j)) (bit_of R2.BITS at2 others (memory_place R2.BITS (to.ensures.pointer m) + j));
    } in
    pairs_match f R.BITS at (span_of c.args.self) words R2.BITS at2 (span_of c.args.other) others pair c.len.result are c.first_with.result c.first_with.ensures
