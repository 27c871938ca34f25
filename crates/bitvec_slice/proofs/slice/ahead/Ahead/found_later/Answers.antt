use Rattle.std.proofs.Common.{◌≡◌, ◌+◌, ◌-◌, ◌*◌, refl, ap, arith}
use Rattle.bitvec_slice.proofs.WordListLemmas.{found_first}
use Rattle.bitvec_slice.proofs.slice.ahead.Ahead.found_later.Goals as goal

-- the word that is found begins before the slice's end
pub overflow_mul-result : goal.overflow_mul-result
overflow_mul-result g c =
    let bits = g.R.BitRegister.BITS in
    let span = c.args.self.now.slice.span in
    let it = c.in_ok-found.found in
    let first = found_first c.in_ok-found.ensures (it.0 * bits + it.2 - span.head) refl in
    let row : it.0 * c.bits_of.result ≡ it.0 * bits = ap (λ b. it.0 * b) c.bits_of.ensures.value in
    omega (arith, first.1, row, span.in_word, span.short)

pub returns : goal.returns
returns g c = (ap (λ b. c.in_ok-found.found.0 * b) c.bits_of.ensures.value, c.in_ok-found.ensures)
