use Rattle.std.proofs.Common.{map, length, sym, ◌∙◌}
use Rattle.bitvec_ptr.specs.BitPtr.{ptr_of}
use Rattle.bitvec_ptr.specs.Memory.{memory_bits, list_with_copy}
use Rattle.bitvec_ptr.specs.Place.{memory_place}
use Rattle.bitvec_ptr.proofs.PlaceOrder.{bit_below}
use Rattle.bitvec_span.specs.BitSpan.{span_of}
use Rattle.bitvec_span.proofs.BecomesLemmas.{fits-numbers, numbers-many, span-becomes}
use Rattle.bitvec_span.proofs.PointerLemmas.{range-in}
use Rattle.bitvec_span.proofs.ptr.span.BitSpan.copy_to_range.Goals as goal

pub copy_within-requires-clause-from_in : goal.copy_within-requires-clause-from_in
copy_within-requires-clause-from_in g c =
    range-in g.R.BitRegister.BITS (length c.args.memory.now) c.len.result (span_of c.args.self) (ptr_of c.to_bitptr.result) c.to_bitptr.ensures.pointer (c.len.ensures ∙ sym c.requires.same) c.requires.source_fits

pub copy_within-requires-clause-to_in : goal.copy_within-requires-clause-to_in
copy_within-requires-clause-to_in g c =
    range-in g.R.BitRegister.BITS (length c.args.memory.now) c.len.result (span_of c.args.target) (ptr_of c.to_bitptr-2.result) c.to_bitptr-2.ensures.pointer c.len.ensures c.requires.fits

pub returns : goal.returns
returns g c =
    let width = g.R.BitRegister.BITS in
    let at = g.O.BitAt.at_of in
    let number = g.R.BitRegister.number in
    let source = span_of c.args.self in
    let target = span_of c.args.target in
    let memory = c.args.memory.now in
    let eight = g.met.R.BitRegister.width_at_least_8 in
    let old = map number memory in
    span-becomes width at source old width at target old _
    (record {
      in_head = bit_below width c.args.self.head eight c.args.self.in_word;
      fits = fits-numbers width source number memory c.requires.source_fits;
    })
    (record {
      in_head = bit_below width c.args.target.head eight c.args.target.in_word;
      fits = fits-numbers width target number memory c.requires.fits;
    })
    (record {
      len = c.requires.same;
      words = numbers-many number memory _ c.copy_within.ensures.words;
      copied = c.copy_within.ensures.bits
          ∙ (λ m. list_with_copy (memory_bits width at old)
          (memory_place width (c.to_bitptr.ensures.pointer m)) (memory_bits width at old)
          (memory_place width (c.to_bitptr-2.ensures.pointer m)) (c.len.ensures m));
    })
