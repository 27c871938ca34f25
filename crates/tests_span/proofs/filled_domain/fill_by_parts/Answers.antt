use Rattle.bitvec_ptr.proofs.PlaceOrder.{bit_below}
use Rattle.bitvec_span.specs.BitSpan.{span_of}
use Rattle.tests_span.proofs.FilledBitLemmas.{filled-becomes}
use Rattle.tests_span.proofs.filled_domain.fill_by_parts.Goals as goal

pub returns : goal.returns
returns g c =
    let in_head = bit_below g.R.BitRegister.BITS c.args.span.head g.met.R.BitRegister.width_at_least_8 c.args.span.in_word in
    filled-becomes _ _ _ c.args.bit (span_of c.args.span) c.args.memory.now _ g.met.O.BitOrder.one_to_one in_head c.requires c.fill_lent.ensures
