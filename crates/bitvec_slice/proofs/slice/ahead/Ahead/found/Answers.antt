use Rattle.std.proofs.Common.{◌≡◌, ◌*◌, arith}
use Rattle.bitvec_slice.specs.BitSlice.{slice_span, slice_len, slice_bits}
use Rattle.bitvec_slice.specs.Field.{stretch_end}
use Rattle.bitvec_slice.specs.Chosen.{chosen_end}
use Rattle.bitvec_slice.proofs.WordListLemmas.{chosen_none, option_left}
use Rattle.bitvec_slice.proofs.slice.ahead.Ahead.found.Goals as goal

pub returns-in-Some : goal.returns-in-Some
returns-in-Some g c =
    let it = c.args.self.now in
    (it.starts, record { begin = it.next; later = omega arith; passed = λ j low high. absurd (omega (arith, low, high)); chosen = it.chosen; first = c.in-Some.ensures })

pub returns-in-None : goal.returns-in-None
returns-in-None g c =
    let it = c.args.self.now in
    let bits = g.R.BitRegister.BITS in
    let span = slice_span it.slice in
    option_left (λ found. found.1 ≡ found.0 * bits) bits g.O.BitAt.at_of span.head (slice_bits it.slice) it.bit it.next (stretch_end bits span.head (slice_len it.slice) it.word) it.end c.found_later.result
    (λ found. chosen_end it.end bits span.head (slice_len it.slice) found.0) (λ found. found.0) (λ found. g.R.BitRegister.number found.2) (λ found. found.3)
    it.ordered (chosen_none it.chosen c.in-None.ensures) (λ found. omega arith) c.found_later.ensures
