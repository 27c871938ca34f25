use Rattle.std.proofs.Common.{◌≡◌, ◌+◌, ◌/◌, ◌%◌, ◌<◌, pos, ap, ◌∙◌, refl, arith}
use Rattle.std.proofs.lemmas.Int.{ints}
use Rattle.bitvec_ptr.specs.Place.{place_of}
use Rattle.bitvec_ptr.proofs.StepLemmas.{IsStep, moved-from_step, quotient_small}
use Rattle.bitvec_ptr.proofs.ptr.single.BitPtr.forward.Goals as goal

pub overflow_add-self : goal.overflow_add-self
overflow_add-self g c =
    let words : (c.from.result + c.args.count) / c.from-width.result ≡ (c.args.self.bit + c.args.count) / g.R.BitRegister.BITS =
    ap (λ v. (v + c.args.count) / c.from-width.result) c.from.ensures ∙ ap (λ v. (c.args.self.bit + c.args.count) / v) (c.from-width.ensures ∙ c.BITS.ensures) in
    let small = quotient_small (c.args.self.bit + c.args.count) g.R.BitRegister.BITS g.met.R.BitRegister.width_at_least_8 (omega (arith, ints, c.requires.short, g.met.R.BitRegister.width_at_most_128)) in
    omega (arith, ints, words, small, c.requires.inside)

pub returns : goal.returns
returns g c =
    let width = g.R.BitRegister.BITS in
    let some : 0 < width = omega (arith, g.met.R.BitRegister.width_at_least_8) in
    let words : (c.from.result + c.args.count) / c.from-width.result ≡ (c.args.self.bit + c.args.count) / width =
    ap (λ v. (v + c.args.count) / c.from-width.result) c.from.ensures ∙ ap (λ v. (c.args.self.bit + c.args.count) / v) (c.from-width.ensures ∙ c.BITS.ensures) in
    let bits : (c.from.result + c.args.count) % c.from-width.result ≡ (c.args.self.bit + c.args.count) % width =
    ap (λ v. (v + c.args.count) % c.from-width.result) c.from.ensures ∙ ap (λ v. (c.args.self.bit + c.args.count) % v) (c.from-width.ensures ∙ c.BITS.ensures) in
    let small = quotient_small (c.args.self.bit + c.args.count) width g.met.R.BitRegister.width_at_least_8 (omega (arith, ints, c.requires.short, g.met.R.BitRegister.width_at_most_128)) in
    let step : IsStep width c.args.self.bit (pos c.args.count) (pos (c.args.self.bit + c.args.count)) (pos ((c.args.self.bit + c.args.count) / width)) c.new_unchecked-bit.result =
    record { sum = refl; carried = refl; index = ap pos (c.new_unchecked-bit.ensures ∙ bits) } in
    ap (place_of width) c.new.ensures ∙ moved-from_step step c.args.self.word _ some (omega (arith, ints, words, small, c.requires.inside))
