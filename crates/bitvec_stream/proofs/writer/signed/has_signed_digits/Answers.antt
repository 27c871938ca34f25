use Rattle.std.proofs.Common.{◌-◌, ◌^◌, ◌<◌, ◌≤◌, refl, arith}
use Rattle.std.proofs.lemmas.Int.{ints}
use Rattle.std.proofs.lemmas.Nat.{pow_pos}
use Rattle.std.proofs.Math.Pow.{pow_mono}
use Rattle.bitvec_stream.proofs.DigitRangeLemmas.{digits_from_between, between_from_digits}
use Rattle.bitvec_stream.proofs.writer.signed.has_signed_digits.Goals as goal

pub returns-then-greatest-number : goal.returns-then-greatest-number
returns-then-greatest-number c = (
  λ h. absurd (cc),
  λ has.
      let some : 0 < c.args.count = omega (arith, c.if-count-eq0.false) in
      let both = between_from_digits c.args.count c.args.number some has in
      absurd (omega (arith, ints, both.0, c.greatest_of-greatest.ensures, c.if-greatest-number.true)),
)

pub returns-then-number-greatest : goal.returns-then-number-greatest
returns-then-number-greatest c = (
  λ h. absurd (cc),
  λ has.
      let some : 0 < c.args.count = omega (arith, c.if-count-eq0.false) in
      let power = pow_pos (c.args.count - 1) in
      let most : 2 ^ (c.args.count - 1) ≤ 2 ^ 127 = pow_mono {i = c.args.count - 1} {j = 127} (let h : c.args.count - 1 ≤ 127 = omega (arith, c.requires) in h) in
      let both = between_from_digits c.args.count c.args.number some has in
      absurd (omega (arith, ints, power, most, both.1, c.greatest_of-greatest.ensures, c.if-number-greatest.true)),
)

pub returns : goal.returns
returns c = (
  λ h.
      let some : 0 < c.args.count = omega (arith, c.if-count-eq0.false) in
      let power = pow_pos (c.args.count - 1) in
      let most : 2 ^ (c.args.count - 1) ≤ 2 ^ 127 = pow_mono {i = c.args.count - 1} {j = 127} (let h : c.args.count - 1 ≤ 127 = omega (arith, c.requires) in h) in
      digits_from_between c.args.count c.args.number some (omega (arith, ints, c.greatest_of-greatest.ensures, c.if-greatest-number.false))
      (omega (arith, ints, power, most, c.greatest_of-greatest.ensures, c.if-number-greatest.false)),
  λ has. refl,
)
