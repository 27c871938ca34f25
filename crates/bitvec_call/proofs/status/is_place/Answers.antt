use Rattle.std.proofs.Common.{rules, ◌≡◌, ◌/◌, ◌<◌, ap, ◌∙◌, arith}
use Rattle.bitvec_call.proofs.PlainRangeLemmas.{word_below, place_before}
use Rattle.bitvec_call.proofs.status.is_place.Goals as goal

pub returns : goal.returns
returns g c =
    let bits = g.R.BitRegister.BITS in
    let some : 0 < bits = omega (arith, g.met.R.BitRegister.width_at_least_8) in
    let width : c.from.result ≡ bits = c.from.ensures ∙ c.BITS.ensures in
    let word : c.args.place / c.from.result ≡ c.args.place / bits = ap (λ n. c.args.place / n) width in (
      λ t.
          let less : c.args.place / c.from.result < c.args.words = search rules in
          place_before bits c.args.words c.args.place some (omega (arith, word, less)),
      λ h.
          let less : c.args.place / c.from.result < c.args.words = omega (arith, word, word_below bits c.args.words c.args.place some (omega (arith, h))) in
          search rules,
    )
