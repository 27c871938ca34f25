-- The digits of a word that is turned: moved up, with those that it loses put below.
use Rattle.std.proofs.Common.{◌≡◌, ℕ, ◌+◌, ◌-◌, ◌*◌, ◌%◌, ◌<◌, ◌≤◌, ◌||◌, Bool, true, false, refl, sym, ap, ◌∙◌, inl, inr, arith}
use Rattle.std.proofs.Math.Bool.{or-false}
use Rattle.std.proofs.Math.Nat.{mod_self}
use Rattle.std.proofs.lemmas.Bool.{cases_lt}
use Rattle.std.proofs.lemmas.Nat.{mod-mul-add}
use Rattle.bitvec.specs.Digit.{digit}

-- s is w moved up, t is w moved down by what is left of its width, and r is both
module _ (bits count up down w s t r : ℕ) (inside : count < bits) (is : up ≡ count) (back : down ≡ (bits - up) % bits)
    (low : (q : ℕ) → q < up → digit s q ≡ false) (moved : (q : ℕ) → up + q < bits → digit s (up + q) ≡ digit w q)
    (dropped : (q : ℕ) → down + q < bits → digit t q ≡ digit w (down + q)) (high : (q : ℕ) → q < bits → bits ≤ down + q → digit t q ≡ false)
    (both : (q : ℕ) → q < bits → digit r q ≡ (digit s q || digit t q)) where
  rest : 0 < count → down ≡ bits - count
  rest some =
      let whole : bits - up ≡ 0 * bits + (bits - count) = omega (arith, is) in
      back ∙ ap (λ n. n % bits) whole ∙ mod-mul-add 0 bits (bits - count) (omega (arith, some, inside))

  none : count ≡ 0 → down ≡ 0
  none zero_is =
      let whole : bits - up ≡ bits = omega (arith, is, zero_is) in
      back ∙ ap (λ n. n % bits) whole ∙ mod_self bits

  same_twice : (a b : Bool) → a ≡ b → (a || b) ≡ b
  same_twice a b e = ap (λ x. x || b) e ∙ or_both b
    where
      or_both : (b : Bool) → (b || b) ≡ b
      or_both true = refl
      or_both false = refl

  moved_there : (q : ℕ) → count + q < bits → digit s (count + q) ≡ digit w q
  moved_there q h = ap (λ n. digit s (n + q)) (sym is) ∙ moved q (omega (arith, h, is))

  pub turned_up : (q : ℕ) → count + q < bits → digit r (count + q) ≡ digit w q
  turned_up q h = elim (cases_lt 0 count) [
    | inl some ↦ (
        both (count + q) h
        ∙ rw (high (count + q) h (omega (arith, rest some, inside))) (or-false (digit s (count + q)))
        ∙ moved_there q h)
    | inr zero_is ↦ (
        let here : down + (count + q) ≡ q = omega (arith, none (omega (arith, zero_is)), zero_is) in
        let again : digit t (count + q) ≡ digit w q = dropped (count + q) (omega (arith, h, none (omega (arith, zero_is)))) ∙ ap (digit w) here in
        both (count + q) h ∙ same_twice (digit s (count + q)) (digit t (count + q)) (moved_there q h ∙ sym again) ∙ again)
  ]

  pub turned_round : (q : ℕ) → q < count → digit r q ≡ digit w (bits - count + q)
  turned_round q h =
      let down_is : down ≡ bits - count = rest (omega (arith, h)) in
      both q (omega (arith, h, inside))
      ∙ rw (low q (omega (arith, h, is))) (dropped q (omega (arith, h, down_is, inside)))
      ∙ ap (λ n. digit w (n + q)) down_is
