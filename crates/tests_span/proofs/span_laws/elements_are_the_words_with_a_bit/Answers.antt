use Rattle.std.proofs.Common.{◌≡◌, ◌-ℤ◌, ◌≤ℤ◌, rules, arith}
use Rattle.std.specs.Int.RustNames.{unsigned_abs}
use Rattle.std.proofs.lemmas.Int.{ints, to_z-of_z}
use Rattle.bitvec_ptr.proofs.PlaceOrder.{bit_below}
use Rattle.bitvec_span.specs.BitSpan.{span_of}
use Rattle.tests_span.proofs.ElementLemmas.{distance-on, has-bit, from-bit, met-bit}
use Rattle.tests_span.proofs.span_laws.elements_are_the_words_with_a_bit.Goals as goal

pub returns-then-first-word : goal.returns-then-first-word
returns-then-first-word g c =
    let width = g.R.BitRegister.BITS in
    let span = span_of c.args.span in
    let word = c.args.word in
    let below = bit_below width span.head g.met.R.BitRegister.width_at_least_8 c.args.span.in_word in
    let from : span.word ≤ℤ word = search (rules, arith, ints) in
    let distance : c.abs_diff.result ≡ unsigned_abs (word -ℤ span.word) = grind (arith, to_z-of_z, c.abs_diff.ensures, c.address-first.ensures) in
    let on = distance-on span.word word c.abs_diff.result from distance in (
      λ t. has-bit width span word below c.abs_diff.result on (search (rules, arith, t, c.elements.ensures.value)),
      λ has. let met = met-bit width span word below c.abs_diff.result on has in search (rules, arith, met, c.elements.ensures.value),
    )

pub returns-else-first-word : goal.returns-else-first-word
returns-else-first-word g c =
    let width = g.R.BitRegister.BITS in
    let span = span_of c.args.span in
    let below = bit_below width span.head g.met.R.BitRegister.width_at_least_8 c.args.span.in_word in (
      λ t. absurd (search rules),
      λ has. let from = from-bit width span c.args.word below has in grind (arith, ints, from, c.address-first.ensures),
    )
