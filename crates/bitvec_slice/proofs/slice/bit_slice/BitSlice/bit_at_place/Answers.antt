use Rattle.std.proofs.Common.{◌≡◌, ◌+◌, ◌-◌, ◌/◌, ◌%◌, ap, sym, ◌∙◌, arith}
use Rattle.std.proofs.lemmas.Nat.{mod_below}
use Rattle.bitvec.specs.Digit.{digit}
use Rattle.bitvec_slice.proofs.FieldLemmas.{met_word}
use Rattle.bitvec_slice.proofs.slice.bit_slice.BitSlice.bit_at_place.Goals as goal

pub word_met-word-requires-clause-fits : goal.word_met-word-requires-clause-fits
word_met-word-requires-clause-fits g c = c.args.self.now.fits

pub word_met-word-requires-clause-met : goal.word_met-word-requires-clause-met
word_met-word-requires-clause-met g c =
    let bits = g.R.BitRegister.BITS in
    let span = c.args.self.now.span in
    let j = c.args.place - span.head in
    let is : c.args.place ≡ span.head + j = omega (arith, c.requires.from) in
    let same : c.args.place / c.bits_of-width.result ≡ (span.head + j) / bits =
    (λ m. is m / c.bits_of-width.ensures.value m) in
    let met = met_word bits span.head span.len j
    (omega (arith, g.met.R.BitRegister.width_at_least_8)) (omega (arith, c.requires)) in
    omega (arith, same, met)

pub overflow_cast-place : goal.overflow_cast-place
overflow_cast-place g c =
    let below = mod_below c.args.place c.bits_of-width.result
    (omega (arith, c.bits_of-width.ensures.least)) in
    omega (arith, below, c.bits_of-width.ensures.greatest)

pub new_unchecked-requires : goal.new_unchecked-requires
new_unchecked-requires g c =
    let below = mod_below c.args.place c.bits_of-width.result
    (omega (arith, c.bits_of-width.ensures.least)) in
    omega (arith, below, c.bits_of-width.ensures.value)

pub returns : goal.returns
returns g c =
    let bits = g.R.BitRegister.BITS in
    let span = c.args.self.now.span in
    let j = c.args.place - span.head in
    let is : c.args.place ≡ span.head + j = omega (arith, c.requires.from) in
    let word = g.R.BitRegister.number c.word_met-word.result in
    c.bit_at.ensures
    ∙ ap (λ i. digit word (g.O.BitAt.at_of i))
    (c.new_unchecked.ensures ∙ (λ m. is m % c.bits_of-width.ensures.value m))
    ∙ c.word_met-word.ensures j (omega (arith, c.requires))
    (sym (λ m. is m / c.bits_of-width.ensures.value m))
