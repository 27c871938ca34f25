use Rattle.std.proofs.Common.{map, length, sym, ◌∙◌}
use Rattle.bitvec_ptr.specs.BitPtr.{ptr_of}
use Rattle.bitvec_ptr.specs.Memory.{memory_bits, list_with}
use Rattle.bitvec_ptr.specs.Place.{memory_place}
use Rattle.bitvec_ptr.proofs.PlaceOrder.{bit_below}
use Rattle.bitvec_span.specs.BitSpan.{span_of}
use Rattle.bitvec_span.proofs.BecomesLemmas.{fits-numbers, numbers-many}
use Rattle.bitvec_span.proofs.CombineSpanLemmas.{span-combines}
use Rattle.bitvec_span.proofs.PointerLemmas.{range-in}
use Rattle.bitvec_span.proofs.ptr.span.BitSpan.combine_from.Goals as goal

pub combine_to-requires-clause-from_in : goal.combine_to-requires-clause-from_in
combine_to-requires-clause-from_in g c =
    range-in g.R2.BitRegister.BITS (length c.args.source_memory.now) c.len.result (span_of c.args.source) (ptr_of c.to_bitptr-start.result) c.to_bitptr-start.ensures.pointer (c.len.ensures ∙ sym c.requires.same) c.requires.source_fits

pub combine_to-requires-clause-to_in : goal.combine_to-requires-clause-to_in
combine_to-requires-clause-to_in g c =
    range-in g.R.BitRegister.BITS (length c.args.memory.now) c.len.result (span_of c.args.self) (ptr_of c.to_bitptr.result) c.to_bitptr.ensures.pointer c.len.ensures c.requires.fits

pub returns : goal.returns
returns g c =
    let wide = g.R2.BitRegister.BITS in
    let width = g.R.BitRegister.BITS in
    let number = g.R.BitRegister.number in
    let source = span_of c.args.source in
    let target = span_of c.args.self in
    let from = c.args.source_memory.now in
    let memory = c.args.memory.now in
    let eight = g.met.R.BitRegister.width_at_least_8 in
    let their_eight = g.met.R2.BitRegister.width_at_least_8 in
    let place_in = g.O2.BitAt.at_of in
    let at = g.O.BitAt.at_of in
    let theirs = map g.R2.BitRegister.number from in
    let old = map number memory in
    span-combines g.C.Combine.of wide place_in source theirs width at target old _
    (record {
      in_head = bit_below wide c.args.source.head their_eight c.args.source.in_word;
      fits = fits-numbers wide source g.R2.BitRegister.number from c.requires.source_fits;
    })
    (record {
      in_head = bit_below width c.args.self.head eight c.args.self.in_word;
      fits = fits-numbers width target number memory c.requires.fits;
    })
    (record {
      len = c.requires.same;
      words = numbers-many number memory _ c.combine_to.ensures.words;
      combined = c.combine_to.ensures.bits
          ∙ (λ m. list_with g.C.Combine.of (memory_bits wide place_in theirs)
          (memory_place wide (c.to_bitptr-start.ensures.pointer m)) (memory_bits width at old)
          (memory_place width (c.to_bitptr.ensures.pointer m)) (c.len.ensures m));
    })
