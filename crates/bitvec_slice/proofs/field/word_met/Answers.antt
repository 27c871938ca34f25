use Rattle.std.proofs.Common.{◌+◌, ◌%◌, map, ap, sym, ◌∙◌, arith}
use Rattle.std.specs.Prelude.{nat_abs, slice_index}
use Rattle.bitvec.specs.BitSpan.{span_of}
use Rattle.bitvec.specs.Digit.{digit}
use Rattle.bitvec.proofs.PartLemmas.{element-list_of, bit_of-span}
use Rattle.bitvec_slice.proofs.AddressLemmas.{address_index, word_behind}
use Rattle.bitvec_slice.proofs.field.word_met.Goals as goal

pub returns : goal.returns
returns g c =
    let width = g.R.BitRegister.BITS in
    let at = g.O.BitAt.at_of in
    let number = g.R.BitRegister.number in
    let span = c.args.span in
    let memory = c.args.memory.now in
    let first = address_index c.address.result span.word c.address.type_inv c.address.ensures in
    let word = word_behind number memory _ (nat_abs span.word) c.args.k c.index-words-k.result first
    (omega (arith, c.requires.fits.1, c.requires.met)) c.index-words-k.is in
    λ j within is.
    let position = at ((span.head + j) % width) in
    ap (λ n. digit n position) word
    ∙ sym (
    element-list_of width at (span_of span) (map number memory) j within
    ∙ bit_of-span width at (span_of span) (map number memory) j (omega (arith, g.met.R.BitRegister.width_at_least_8))
    ∙ ap (λ n. digit (slice_index (map number memory) (nat_abs span.word + n)) position) is)
