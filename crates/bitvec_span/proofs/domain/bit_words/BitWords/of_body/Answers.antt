use Rattle.std.proofs.Common.{◌≡◌, ◌<◌, length, ◌∙◌, arith}
use Rattle.std.proofs.Math.Nat.{le-div_iff_mul-le}
use Rattle.bitvec_span.proofs.WordsLemmas.{body_met}
use Rattle.bitvec_span.proofs.domain.bit_words.BitWords.of_body.Goals as goal

pub invariant_of-result-clause-short : goal.invariant_of-result-clause-short
invariant_of-result-clause-short g c =
    let some : 0 < g.R.BitRegister.BITS = omega (arith, g.met.R.BitRegister.width_at_least_8) in
    let width : c.from.result ≡ g.R.BitRegister.BITS = c.from.ensures ∙ c.BITS.ensures in
    rw width ((le-div_iff_mul-le some).0 c.requires)

pub invariant_of-result-clause-fits : goal.invariant_of-result-clause-fits
invariant_of-result-clause-fits g c =
    let some : 0 < g.R.BitRegister.BITS = omega (arith, g.met.R.BitRegister.width_at_least_8) in
    let width : c.from.result ≡ g.R.BitRegister.BITS = c.from.ensures ∙ c.BITS.ensures in
    rw width (body_met g.R.BitRegister.BITS (length c.args.body.now) some)
