use Rattle.std.proofs.Common.{◌<◌, arith}
use Rattle.bitvec_ptr.proofs.PlaceOrder.{bit_below}
use Rattle.bitvec_span.specs.BitSpan.{span_of}
use Rattle.bitvec_span.proofs.SplitLemmas.{split-disjoint, split-fit, split-lists, split-apart}
use Rattle.bitvec_span.proofs.ptr.span.BitSpan.split_at.Goals as goal

pub returns-clause-disjoint : goal.returns-clause-disjoint
returns-clause-disjoint g c =
    let some : 0 < g.R.BitRegister.BITS = omega (arith, g.met.R.BitRegister.width_at_least_8) in
    split-disjoint _ (span_of c.args.self) _ _ c.args.mid some c.requires c.bits_before-first.ensures c.bits_from-second.ensures

pub returns-clause-fit : goal.returns-clause-fit
returns-clause-fit g c =
    let some : 0 < g.R.BitRegister.BITS = omega (arith, g.met.R.BitRegister.width_at_least_8) in
    split-fit _ (span_of c.args.self) _ _ c.args.mid some c.requires c.bits_before-first.ensures c.bits_from-second.ensures (bit_below _ c.args.self.head g.met.R.BitRegister.width_at_least_8 c.args.self.in_word)

pub returns-clause-lists : goal.returns-clause-lists
returns-clause-lists g c =
    let some : 0 < g.R.BitRegister.BITS = omega (arith, g.met.R.BitRegister.width_at_least_8) in
    split-lists _ (span_of c.args.self) _ _ c.args.mid some c.requires c.bits_before-first.ensures c.bits_from-second.ensures

pub returns-clause-apart : goal.returns-clause-apart
returns-clause-apart g c =
    let some : 0 < g.R.BitRegister.BITS = omega (arith, g.met.R.BitRegister.width_at_least_8) in
    split-apart _ (span_of c.args.self) _ _ c.args.mid some c.requires c.bits_before-first.ensures c.bits_from-second.ensures
