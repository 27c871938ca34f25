use Rattle.std.proofs.Common.{rules, ◌≡◌, ◌+◌, ◌-◌, ◌*◌, ◌/◌, ◌%◌, ◌<◌, ◌≤◌, length, ap, arith}
use Rattle.std.proofs.lemmas.Nat.{div-add-mod', mod_below}
use Rattle.bitvec_slice.specs.BitSlice.{slice_span, slice_bits}
use Rattle.bitvec_stream.proofs.KeepLemmas.{keeps_at, keeps_word}
use Rattle.bitvec_stream.proofs.reader.window.filled.Goals as goal

pub invariant_of-result-clause-within : goal.invariant_of-result-clause-within
invariant_of-result-clause-within g c =
    let width = c.bits_of-width.result in
    let whole = c.bits_of-width.ensures.value in
    let place = c.head.result + c.args.position in
    let has = c.has_word.ensures.0 (search rules) in
    let row : place / width * width ≡ place / width * g.R.BitRegister.BITS = ap (λ n. place / width * n) whole in
    omega (arith, div-add-mod' place width, row, whole, has.1, c.head.ensures)

pub invariant_of-result-clause-shown : goal.invariant_of-result-clause-shown
invariant_of-result-clause-shown g c =
    let bits = g.R.BitRegister.BITS in
    let number = g.R.BitRegister.number in
    let xs = slice_bits c.args.slice in
    let width = c.bits_of-width.result in
    let whole = c.bits_of-width.ensures.value in
    let place = c.head.result + c.args.position in
    let k = place / width in
    let behind = place % width in
    let head = (slice_span c.args.slice).head in
    let has = c.has_word.ensures.0 (search rules) in
    let many = c.args.slice.many in
    let row : k * width ≡ k * bits = ap (λ n. k * n) whole in
    let parts = div-add-mod' place width in
    let below : behind < width = mod_below place width (omega (arith, whole, g.met.R.BitRegister.width_at_least_8)) in
    let first = k * bits - head in
    let starts : head + first ≡ k * bits = omega (arith, has.0) in
    let inside : first + bits ≤ length xs = omega (arith, has.0, has.1, many) in
    let word = keeps_word bits g.O.BitAt.at_of head xs first k (number c.whole_word.result) starts inside (λ j h same. c.whole_word.ensures j (omega (arith, h, many)) same) in
    let moved = c.passed.ensures xs first bits word (omega (arith, below, whole)) (omega arith) in
    keeps_at bits g.O.BitAt.at_of xs _ _ _ _ (number c.passed.result) (omega (arith, has.0, row, parts, below, whole, c.head.ensures)) (omega (arith, whole)) moved
