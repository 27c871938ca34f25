use Rattle.std.proofs.Common.{◌≡◌, ◌+◌, ◌-◌, ◌*◌, ◌<◌, subst, arith}
use Rattle.bitvec_slice.specs.BitSlice.{slice_span, slice_len, slice_bits}
use Rattle.bitvec_slice.specs.Chosen.{IsChosen, chosen_end}
use Rattle.bitvec_slice.proofs.WordListLemmas.{chosen_before}
use Rattle.bitvec_slice.proofs.slice.ahead.Ahead.left_before.Goals as goal

pub returns-then-index-width : goal.returns-then-index-width
returns-then-index-width g c =
    let it = c.args.self.now in
    let bits = g.R.BitRegister.BITS in
    let span = slice_span it.slice in
    let i = c.args.i in
    let index = c.head.result + i - it.start in
    let low = c.requires.0 in
    let high = c.requires.1 in
    let start = it.chosen.start in
    let place : it.word * bits + index ≡ span.head + i = omega (arith, it.starts, c.head.ensures, low, start) in
    let small : index < bits = omega (arith, c.if-index-width.true, c.bits_of-width.ensures.value) in
    let inside = it.inside in
    let upto : i ≡ chosen_end i bits span.head (slice_len it.slice) it.word = omega (arith, place, small, high, inside) in
    subst (λ n. IsChosen bits g.O.BitAt.at_of span.head (slice_bits it.slice) it.word it.next n it.bit (g.R.BitRegister.number c.turned.result)) upto
    (chosen_before it.chosen g.met.O.BitOrder.one_to_one it.end index i _ (omega arith) (omega (arith, place, small, high, inside)) small place c.requires c.turned.ensures)

pub returns-else-index-width : goal.returns-else-index-width
returns-else-index-width g c =
    let it = c.args.self.now in
    let bits = g.R.BitRegister.BITS in
    let span = slice_span it.slice in
    let i = c.args.i in
    let index = c.head.result + i - it.start in
    let high = c.requires.1 in
    let upto : chosen_end it.end bits span.head (slice_len it.slice) it.word ≡ chosen_end i bits span.head (slice_len it.slice) it.word =
    omega (arith, it.starts, c.head.ensures, c.if-index-width.false, c.bits_of-width.ensures.value, high) in
    subst (λ n. IsChosen bits g.O.BitAt.at_of span.head (slice_bits it.slice) it.word it.next n it.bit (g.R.BitRegister.number it.left)) upto it.chosen
