use Rattle.std.proofs.Common.{◌≡◌, ◌+◌, ◌/◌, ◌<◌, ◌∙◌, ap, refl, arith}
use Rattle.std.proofs.lemmas.Int.{ints}
use Rattle.std.specs.Int.{w64}
use mir.Val.{to_z, of_z}
use Rattle.bitvec_ptr.proofs.PlaceLemmas.{floor_place}
use Rattle.bitvec_span.proofs.ptr.span.BitSpan.new.Goals as goal

pub returns-then-bits-gt-MAX_BITS-clause-accepted : goal.returns-then-bits-gt-MAX_BITS-clause-accepted
returns-then-bits-gt-MAX_BITS-clause-accepted g c = (λ e. absurd cc, λ p. absurd (omega (arith, p.0)))

pub returns-then-bits-gt-MAX_BITS-clause-too_long : goal.returns-then-bits-gt-MAX_BITS-clause-too_long
returns-then-bits-gt-MAX_BITS-clause-too_long g c = (λ _. omega arith, λ _. refl)

pub returns-then-bits-gt-MAX_BITS-clause-too_high : goal.returns-then-bits-gt-MAX_BITS-clause-too_high
returns-then-bits-gt-MAX_BITS-clause-too_high g c = (λ e. absurd cc, λ p. absurd (omega (arith, p.0)))

pub returns-then-word-met-clause-accepted : goal.returns-then-word-met-clause-accepted
returns-then-word-met-clause-accepted g c =
    let width = g.R.BitRegister.BITS in
    let some : 0 < width = omega (arith, g.met.R.BitRegister.width_at_least_8) in
    let met : (c.from.result + c.args.bits) / c.from-2.result ≡ (c.args.head + c.args.bits) / width =
    ap (λ v. (v + c.args.bits) / c.from-2.result) (c.from.ensures ∙ c.into_inner.ensures.value) ∙ ap (λ v. (c.args.head + c.args.bits) / v) (c.from-2.ensures ∙ c.BITS.ensures) in
    rw (floor_place width c.args.word c.args.head c.args.bits some) (λ e. absurd cc, λ low. absurd (omega (arith, ints, met, low)))

pub returns-then-word-met-clause-too_high : goal.returns-then-word-met-clause-too_high
returns-then-word-met-clause-too_high g c =
    let width = g.R.BitRegister.BITS in
    let some : 0 < width = omega (arith, g.met.R.BitRegister.width_at_least_8) in
    let met : (c.from.result + c.args.bits) / c.from-2.result ≡ (c.args.head + c.args.bits) / width =
    ap (λ v. (v + c.args.bits) / c.from-2.result) (c.from.ensures ∙ c.into_inner.ensures.value) ∙ ap (λ v. (c.args.head + c.args.bits) / v) (c.from-2.ensures ∙ c.BITS.ensures) in
    rw (floor_place width c.args.word c.args.head c.args.bits some) (λ _. (omega arith, omega (arith, ints, met)), λ _. (let same : to_z w64 (of_z w64 c.args.word) ≡ c.args.word = omega (arith, ints) in rw same refl))

pub new_unchecked-requires-clause-low : goal.new_unchecked-requires-clause-low
new_unchecked-requires-clause-low g c =
    let width = g.R.BitRegister.BITS in
    let some : 0 < width = omega (arith, g.met.R.BitRegister.width_at_least_8) in
    let met : (c.from.result + c.args.bits) / c.from-2.result ≡ (c.args.head + c.args.bits) / width =
    ap (λ v. (v + c.args.bits) / c.from-2.result) (c.from.ensures ∙ c.into_inner.ensures.value) ∙ ap (λ v. (c.args.head + c.args.bits) / v) (c.from-2.ensures ∙ c.BITS.ensures) in
    rw (floor_place width (to_z w64 (of_z w64 c.args.word)) c.args.head c.args.bits some) (omega (arith, ints, met))
