-- Multiples of a number.
use Rattle.std.proofs.Common.{◌≡◌, ℕ, ◌+◌, ◌-◌, ◌*◌, ◌/◌, ◌%◌, ◌<◌, ap, ◌∙◌, inl, inr, arith}
use Rattle.std.proofs.lemmas.Bool.{cases_eq}
use Rattle.std.proofs.lemmas.Nat.{mod-mul-add, div-add-mod', mod_below}
use Rattle.std.proofs.Math.Nat.{mod-eq_of_lt, add-mul}
use Rattle.bitvec_stream.specs.Multiples.{to_multiple}

-- as far as it is from the next multiple, a number reaches one, and that is less than the other
pub reaches : (of n : ℕ) → 0 < of → (n + to_multiple of n) % of ≡ 0
reaches of n some =
    let parts = div-add-mod' n of in
    let small = mod_below n of some in
    elim (cases_eq (n % of) 0) [
      | inl at ↦ (
          let all : of - n % of ≡ 1 * of + 0 = omega (arith, at) in
          let none : (of - n % of) % of ≡ 0 = ap (λ k. k % of) all ∙ mod-mul-add 1 of 0 some in
          let same : n + (of - n % of) % of ≡ n = omega (arith, none) in
          ap (λ k. k % of) same ∙ at)
      | inr off ↦ (
          let rest : (of - n % of) % of ≡ of - n % of = mod-eq_of_lt {n = of - n % of} {m = of} (omega (arith, some, small, off)) in
          let product : (n / of + 1) * of ≡ n / of * of + 1 * of = add-mul (n / of) 1 of in
          let whole : n + (of - n % of) % of ≡ (n / of + 1) * of + 0 = omega (arith, rest, parts, small, product) in
          ap (λ k. k % of) whole ∙ mod-mul-add (n / of + 1) of 0 some)
    ]
