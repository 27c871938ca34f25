use Rattle.std.proofs.Common.{◌≡◌, ◌*◌, ap, ◌∙◌, arith}
use Rattle.bitvec_slice.proofs.FieldLemmas.{met_bounds}
use Rattle.bitvec_slice.proofs.field.before.Goals as goal

pub overflow_mul-result : goal.overflow_mul-result
overflow_mul-result g c =
    let width = g.R.BitRegister.BITS in
    let span = c.args.span in
    let eight = g.met.R.BitRegister.width_at_least_8 in
    let bounds = met_bounds width span.head span.len c.args.k (omega (arith, eight)) (omega (arith, span.in_word, eight)) c.requires in
    let times : c.args.k * c.from.result ≡ c.args.k * width = ap (λ n. c.args.k * n) (c.from.ensures ∙ c.BITS.ensures) in
    omega (arith, times, bounds.3, span.short, span.in_word, g.met.R.BitRegister.width_at_most_128)

pub returns-clause-below : goal.returns-clause-below
returns-clause-below g c =
    let width = g.R.BitRegister.BITS in
    let span = c.args.span in
    let eight = g.met.R.BitRegister.width_at_least_8 in
    let bounds = met_bounds width span.head span.len c.args.k (omega (arith, eight)) (omega (arith, span.in_word, eight)) c.requires in
    let times : c.args.k * c.from.result ≡ c.args.k * width = ap (λ n. c.args.k * n) (c.from.ensures ∙ c.BITS.ensures) in
    omega (arith, times, bounds.3)
