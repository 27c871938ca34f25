use Rattle.std.proofs.Common.{◌≡◌, ◌+◌, ◌*◌, ◌<◌, ap, arith}
use Rattle.bitvec_ptr.proofs.PlaceLemmas.{zero_index}
use Rattle.bitvec_ptr.proofs.ptr.copy.words.sections_of.Goals as goal

pub returns-clause-middle_starts : goal.returns-clause-middle_starts
returns-clause-middle_starts g c = λ w e.
    let R = g.R.BitRegister in
    let middle = c.advanced-middle.result in
    let small : middle.bit < R.BITS = omega (arith, middle.in_word, g.met.R.BitRegister.width_at_least_8) in
    zero_index R.BITS middle.word middle.bit (c.args.from.word + 1) small (omega (arith, w, e))

pub returns-clause-end_starts : goal.returns-clause-end_starts
returns-clause-end_starts g c = λ w e.
    let R = g.R.BitRegister in
    let end = c.advanced-end.result in
    let whole = c.whole_and_last-whole.result.0 in
    let small : end.bit < R.BITS = omega (arith, end.in_word, g.met.R.BitRegister.width_at_least_8) in
    let times : whole * R.BITS ≡ whole * g.R2.BitRegister.BITS = ap (λ n. whole * n) w in
    zero_index R.BITS end.word end.bit (c.args.from.word + 1 + whole) small (omega (arith, w, e, times))
