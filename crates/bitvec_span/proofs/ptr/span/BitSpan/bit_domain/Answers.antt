use Rattle.std.proofs.Common.{ap, ◌∙◌}
use Rattle.bitvec_ptr.proofs.PlaceOrder.{bit_below}
use Rattle.bitvec_span.specs.BitSpan.{span_of}
use Rattle.bitvec_span.specs.Domain.{domain_parts}
use Rattle.bitvec_span.specs.BitParts.{joined_bits}
use Rattle.bitvec_span.proofs.JoinLemmas.{joined-words_of}
use Rattle.bitvec_span.proofs.ptr.span.BitSpan.bit_domain.Goals as goal

pub returns-clause-joined : goal.returns-clause-joined
returns-clause-joined g c =
    let width = g.R.BitRegister.BITS in
    let number = g.R.BitRegister.number in
    ap (joined_bits width g.O.BitAt.at_of) c.into_bit_domain.ensures
    ∙ joined-words_of width g.O.BitAt.at_of (span_of c.args.self) number c.args.memory.now (domain_parts number c.domain.result) (bit_below width c.args.self.head g.met.R.BitRegister.width_at_least_8 c.args.self.in_word) c.requires c.domain.ensures.parts
