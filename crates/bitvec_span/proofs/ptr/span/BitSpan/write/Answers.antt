use Rattle.std.proofs.Common.{map, length}
use Rattle.bitvec_ptr.specs.BitPtr.{ptr_of}
use Rattle.bitvec_ptr.proofs.PlaceOrder.{bit_below}
use Rattle.bitvec_span.specs.BitSpan.{span_of}
use Rattle.bitvec_span.proofs.BecomesLemmas.{fits-numbers, numbers-many, bit-becomes}
use Rattle.bitvec_span.proofs.PointerLemmas.{index-at_place}
use Rattle.bitvec_span.proofs.ptr.span.BitSpan.write.Goals as goal

pub returns : goal.returns
returns g c =
    let width = g.R.BitRegister.BITS in
    let number = g.R.BitRegister.number in
    let span = span_of c.args.self in
    let memory = c.args.memory.now in
    let in_head = bit_below width c.args.self.head g.met.R.BitRegister.width_at_least_8 c.args.self.in_word in
    bit-becomes width g.O.BitAt.at_of span (map number memory) _ in_head (fits-numbers width span number memory c.requires.fits) c.args.i _ c.args.bit c.requires.inside
    (index-at_place width (ptr_of c.bitptr.result) span (length memory) c.args.i (c.bitptr.ensures.inside (length memory) c.requires.fits) c.requires.fits c.bitptr.ensures.place)
    (numbers-many number memory _ c.write.ensures.words) c.write.ensures.bits
