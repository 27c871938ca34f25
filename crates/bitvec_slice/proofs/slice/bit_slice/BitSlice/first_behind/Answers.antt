use Rattle.std.proofs.Common.{◌≡◌, ℕ, ◌+◌, ◌-◌, ◌*◌, ◌<◌, ◌≤◌, min, refl, ap, arith}
use Rattle.bitvec_slice.specs.BitSlice.{slice_span}
use Rattle.bitvec_slice.proofs.WordListLemmas.{found_first, found_index}
use Rattle.bitvec_slice.proofs.slice.bit_slice.BitSlice.first_behind.Goals as goal

-- a bit behind a word's end has a place behind the head
behind_head : (end len word bits head n r x start : ℕ) → head < bits
    → min len (word * bits + bits - head) ≤ r → r < min end (min len x) → n - start ≡ r → start ≡ head
    → start ≤ n
behind_head end len word bits head n r x start small low high e is = omega arith

-- the bit that is found lies before the slice's end, and behind its head
pub overflow_mul-i : goal.overflow_mul-i
overflow_mul-i g c =
    let bits = g.R.BitRegister.BITS in
    let span = c.args.self.now.span in
    let it = c.in_ok-found.found in
    let first = found_first c.in_ok-found.ensures (it.0 * bits + it.2 - span.head) refl in
    let row : it.0 * c.bits_of.result ≡ it.0 * bits = ap (λ b. it.0 * b) c.bits_of.ensures.value in
    omega (arith, first.1, row, span.in_word, span.short)

pub overflow_add-i : goal.overflow_add-i
overflow_add-i g c =
    let bits = g.R.BitRegister.BITS in
    let span = c.args.self.now.span in
    let it = c.in_ok-found.found in
    let first = found_first c.in_ok-found.ensures (it.0 * bits + it.2 - span.head) refl in
    let row : it.0 * c.bits_of.result ≡ it.0 * bits = ap (λ b. it.0 * b) c.bits_of.ensures.value in
    omega (arith, first.1, row, span.in_word, span.short)

pub overflow_sub-i : goal.overflow_sub-i
overflow_sub-i g c =
    let bits = g.R.BitRegister.BITS in
    let span = c.args.self.now.span in
    let it = c.in_ok-found.found in
    let first = found_first c.in_ok-found.ensures (it.0 * bits + it.2 - span.head) refl in
    behind_head _ span.len c.args.word bits span.head _ _ _ c.head.result
    (omega (arith, span.in_word, g.met.R.BitRegister.width_at_least_8)) first.0 first.1
    (found_index it.0 it.2 bits span.head c.bits_of.ensures.value c.from.ensures c.head.ensures)
    c.head.ensures

pub returns-then-upto-i : goal.returns-then-upto-i
returns-then-upto-i g c =
    let it = c.in_ok-found.found in
    let is = found_index it.0 it.2 g.R.BitRegister.BITS (slice_span c.args.self.now).head c.bits_of.ensures.value c.from.ensures c.head.ensures in
    let first = found_first c.in_ok-found.ensures _ is in
    λ j after before. first.3 j after (omega (arith, before, c.if-upto-i.true))

pub returns-else-upto-i : goal.returns-else-upto-i
returns-else-upto-i g c =
    let it = c.in_ok-found.found in
    let is = found_index it.0 it.2 g.R.BitRegister.BITS (slice_span c.args.self.now).head c.bits_of.ensures.value c.from.ensures c.head.ensures in
    let first = found_first c.in_ok-found.ensures _ is in
    (first.0, c.if-upto-i.false, first.2, first.3)
