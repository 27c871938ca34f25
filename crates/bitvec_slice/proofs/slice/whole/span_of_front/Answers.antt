use Rattle.std.proofs.Common.{rules, arith}
use Rattle.bitvec.specs.Span.{Fits, front_span}
use Rattle.bitvec_slice.proofs.SlicePartLemmas.{front_inside, whole_fits}
use Rattle.bitvec_slice.proofs.slice.whole.span_of_front.Goals as goal

pub returns-then-fits-clause-accepted : goal.returns-then-fits-clause-accepted
returns-then-fits-clause-accepted g c =
    let eight = g.met.R.BitRegister.width_at_least_8 in
    let fits : Fits g.R.BitRegister.BITS (front_span c.args.len) c.args.words = search rules in
    let within = front_inside g.R.BitRegister.BITS c.args.words c.args.len (omega (arith, eight)) fits in
    search (rules, within)

pub returns-else-fits-clause-accepted : goal.returns-else-fits-clause-accepted
returns-else-fits-clause-accepted g c =
    let fits = whole_fits g.R.BitRegister.BITS c.args.words c.args.len in
    search (rules, fits)
