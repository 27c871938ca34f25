-- The number of a code's digits, as it is read.
use Rattle.std.proofs.Common.{◌≡◌, ◌+◌, ◌-◌, ◌^◌, ◌<◌, ◌≤◌, Bool, true, false, List, length, drop, sym, ap, ◌∙◌, inl, inr, arith}
use Rattle.std.proofs.lemmas.Bool.{cases_eq}
use Rattle.std.proofs.lemmas.Nat.{pow_pos}
use Rattle.std.proofs.Math.Pow.{pow_mono}
use Rattle.bitvec.specs.Span.{element}
use Rattle.bitvec.specs.Truths.{AllAre}
use Rattle.bitvec_stream.specs.Numbers.{number_be}
use Rattle.bitvec_stream.proofs.GolombLemmas.{number_be-first, number_be-one, number_be-none, none-number_be}
use Rattle.bitvec_slice.proofs.DigitListLemmas.{number_be-below}

-- a number of at most 128 digits, of which the first is one
pub code_small : (xs : List Bool) → element xs 0 ≡ true → length xs ≤ 128 → (0 < number_be xs) × (number_be xs < 2 ^ 128 + 1)
code_small xs one few =
    let first = number_be-first xs one in
    let some = pow_pos (length xs - 1) in
    let below = number_be-below xs in
    let most : 2 ^ length xs ≤ 2 ^ 128 = pow_mono {i = length xs} {j = 128} few in
    (omega (arith, first.1, some), omega (arith, below, most))

-- one of more
pub code_long : (xs : List Bool) → element xs 0 ≡ true → 129 < length xs → 2 ^ 128 + 1 < number_be xs
code_long xs one many =
    let first = number_be-first xs one in
    let more : 2 ^ 129 ≤ 2 ^ (length xs - 1) = pow_mono {i = 129} {j = length xs - 1} (let h : 129 ≤ length xs - 1 = omega (arith, many) in h) in
    omega (arith, first.1, more)

module _ (xs low : List Bool) (one : element xs 0 ≡ true) (is : low ≡ drop 1 xs) (many : length xs ≡ 129) where
  -- one of 129
  pub code_next : number_be xs ≡ 2 ^ 128 + number_be low
  code_next = number_be-one xs 128 many one ∙ ap (λ us. 2 ^ 128 + number_be us) (sym is)

  pub code_greatest : AllAre false low → number_be xs ≡ 2 ^ 128
  code_greatest none = code_next ∙ ap (λ n. 2 ^ 128 + n) (number_be-none low none) ∙ omega arith

  pub code_greater : ¬ AllAre false low → 2 ^ 128 < number_be xs
  code_greater some = elim (cases_eq (number_be low) 0) [
    | inl none ↦ absurd (some (none-number_be low none))
    | inr other ↦ omega (arith, code_next, other)
  ]
