use Rattle.std.proofs.Common.{rules, ◌*◌, ◌≤◌}
use Rattle.bitvec_slice.proofs.SlicePartLemmas.{whole_fits}
use Rattle.bitvec_slice.proofs.slice.whole.span_of_all.Goals as goal

pub returns-clause-fits : goal.returns-clause-fits
returns-clause-fits g c =
    let few : c.saturating_mul.result ≤ c.args.words * g.R.BitRegister.BITS = search rules in
    let fits = whole_fits g.R.BitRegister.BITS c.args.words c.saturating_mul.result few in
    search (rules, fits)
