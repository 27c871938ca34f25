use Rattle.std.proofs.Common.{◌≡◌, ℕ, ◌/◌, ◌*◌, ◌-◌, ◌^◌, ◌<◌, ◌≤◌, pos, negsuc, to_z, sym, ap, ◌∙◌, arith}
use Rattle.std.specs.Int.{w128}
use Rattle.std.proofs.lemmas.Int.{to_z_pos}
use Rattle.std.proofs.lemmas.Nat.{pow_pos}
use Rattle.std.proofs.Math.Pow.{pow_mono}
use Rattle.bitvec_slice.proofs.SignedLemmas.{signed_low, signed_high, signed_digits, half, ones_of, turned_number}
use Rattle.bitvec_slice.proofs.field.signed.signed_number.Goals as goal

pub returns-then-len-eq0-clause-value : goal.returns-then-len-eq0-clause-value
returns-then-len-eq0-clause-value c =
    let one : 2 ^ c.args.len ≡ 1 = ap (λ k. 2 ^ k) c.if-len-eq0.true in
    let none : c.args.digits ≡ 0 = omega (arith, one, c.requires.below) in
    ap pos (sym none) ∙ sym (signed_low c.args.len c.args.digits (omega (arith, one, none)))

pub returns-then-len-eq0-clause-fits : goal.returns-then-len-eq0-clause-fits
returns-then-len-eq0-clause-fits c = signed_digits c.args.len c.args.digits c.requires.below

pub overflow_sub-result : goal.overflow_sub-result
overflow_sub-result c =
    let ones = ones_of c.args.len c.requires.short in
    omega (arith, ones, c.requires.below)

pub returns-then-digits-ones-clause-value : goal.returns-then-digits-ones-clause-value
returns-then-digits-ones-clause-value c =
    let ones = ones_of c.args.len c.requires.short in
    let some = pow_pos c.args.len in
    let few : 2 * c.args.digits < 2 ^ c.args.len = omega (arith, ones, some, c.if-digits-ones.true) in
    let most : 2 ^ c.args.len ≤ 2 ^ 128 = pow_mono c.requires.short in
    let is : to_z w128 c.args.digits ≡ pos c.args.digits = to_z_pos w128 c.args.digits (omega (arith, few, most)) in
    is ∙ sym (signed_low c.args.len c.args.digits few)

pub returns-then-digits-ones-clause-fits : goal.returns-then-digits-ones-clause-fits
returns-then-digits-ones-clause-fits c = signed_digits c.args.len c.args.digits c.requires.below

pub returns-else-digits-ones-clause-value : goal.returns-else-digits-ones-clause-value
returns-else-digits-ones-clause-value c =
    let ones = ones_of c.args.len c.requires.short in
    let some : 0 < c.args.len = omega arith in
    let even = half c.args.len some in
    let many : 2 ^ c.args.len ≤ 2 * c.args.digits = omega (arith, ones, even, c.if-digits-ones.false) in
    let most : 2 ^ c.args.len ≤ 2 ^ 128 = pow_mono c.requires.short in
    let rest : ℕ = (2 ^ 128 - 1) / 2 ^ (128 - c.args.len) - c.args.digits in
    let same : rest ≡ 2 ^ c.args.len - 1 - c.args.digits = omega (arith, ones) in
    turned_number rest (omega (arith, same, many, most, c.requires.below)) ∙ ap negsuc same
    ∙ sym (signed_high c.args.len c.args.digits some c.requires.below many)

pub returns-else-digits-ones-clause-fits : goal.returns-else-digits-ones-clause-fits
returns-else-digits-ones-clause-fits c = signed_digits c.args.len c.args.digits c.requires.below
