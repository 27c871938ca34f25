use Rattle.std.proofs.Common.{◌∙◌, ap, map}
use Rattle.bitvec_ptr.proofs.PlaceOrder.{bit_below}
use Rattle.bitvec_span.specs.Parts.{value_of}
use Rattle.bitvec_span.specs.BitSpan.{span_of}
use Rattle.bitvec_span.proofs.PartLemmas.{value_of-part_of}
use Rattle.bitvec_span.proofs.ptr.span.BitSpan.part.Goals as goal

pub returns-clause-word : goal.returns-clause-word
returns-clause-word g c =
    let width = g.R.BitRegister.BITS in
    ap (value_of width g.O.BitAt.at_of) c.part_among.ensures ∙ value_of-part_of width g.O.BitAt.at_of (span_of c.args.self) (map g.R.BitRegister.number c.args.memory.now) c.args.k (bit_below width c.args.self.head g.met.R.BitRegister.width_at_least_8 c.args.self.in_word) c.requires.met
