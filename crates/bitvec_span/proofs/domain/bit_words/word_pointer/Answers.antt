use Rattle.std.proofs.Common.{◌≡◌, ◌+◌, ◌/◌, ◌*◌, ◌<◌, ap, ◌∙◌, arith}
use Rattle.std.proofs.lemmas.Int.{ints}
use Rattle.std.proofs.lemmas.Nat.{mod_below, div_below}
use Rattle.std.specs.Prelude.{pos, nat_abs}
use Rattle.std.specs.Int.{w64}
use mir.Val.{to_z}
use Rattle.bitvec_ptr.specs.Place.{memory_place}
use Rattle.bitvec_span.proofs.WordsLemmas.{quotient_most, place_from}
use Rattle.bitvec_span.proofs.domain.bit_words.word_pointer.Goals as goal

pub overflow_cast-far : goal.overflow_cast-far
overflow_cast-far g c = let most = quotient_most (c.from.result + c.args.i) c.from-width.result (omega arith) in omega (arith, ints)

pub overflow_cast-far-2 : goal.overflow_cast-far-2
overflow_cast-far-2 g c = let rest = mod_below (c.from.result + c.args.i) c.from-width.result (omega arith) in omega arith

pub new_unchecked-requires : goal.new_unchecked-requires
new_unchecked-requires g c = let rest = mod_below (c.from.result + c.args.i) c.from-width.result (omega arith) in omega arith

pub returns-clause-place : goal.returns-clause-place
returns-clause-place g c =
    let width = g.R.BitRegister.BITS in
    let far = c.from.result + c.args.i in
    let most = quotient_most far c.from-width.result (omega arith) in
    let same : to_z w64 (far / c.from-width.result) ≡ pos (far / c.from-width.result) = omega (arith, ints) in
    ap (memory_place width) c.new.ensures
    ∙ ap (λ z. nat_abs z * width + c.new_unchecked.result) same
    ∙ place_from far c.from-width.result width c.new_unchecked.result (c.from-width.ensures ∙ c.BITS.ensures) c.new_unchecked.ensures
    ∙ ap (λ n. n + c.args.i) c.from.ensures

pub returns-clause-inside : goal.returns-clause-inside
returns-clause-inside g c = λ words h.
    let far = c.from.result + c.args.i in
    let scaled : words * c.from-width.result ≡ words * g.R.BitRegister.BITS = ap (λ k. words * k) (c.from-width.ensures ∙ c.BITS.ensures) in
    let below : far / c.from-width.result < words = div_below far c.from-width.result words (omega arith) (omega arith) in
    let is = ap (λ p. p.word) c.new.ensures in
    (omega (arith, ints, is), omega (arith, ints, is, below))
