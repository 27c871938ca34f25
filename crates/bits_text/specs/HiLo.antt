-- The order that swaps the halves of each byte.
use Rattle.std.proofs.Common.{◌≡◌, ℕ, ◌<◌, ◌≤◌, ◌^◌, bit_xor, sym, ap, ◌∙◌, subst, arith}
use Rattle.std.proofs.lemmas.Nat.{xor_lt, pow_below}
use Rattle.std.specs.Int.Bits.{xor_assoc, xor_self, xor_zero_r}
use Rattle.bitvec.specs.Order.{IsOneToOne}

-- the position of index i: the index with its third lowest digit turned
abbrev pub swapped_index : ℕ → ℕ
swapped_index i = bit_xor i 4

swapped_twice : (i : ℕ) → swapped_index (swapped_index i) ≡ i
swapped_twice i = xor_assoc i 4 4 ∙ ap (bit_xor i) (xor_self 4) ∙ xor_zero_r i

pub swapped_one_to_one : (width exponent : ℕ) → width ≡ 2 ^ exponent → 3 ≤ exponent → IsOneToOne width swapped_index
swapped_one_to_one width exponent e h = record {
  below = λ i l. subst (λ w. bit_xor i 4 < w) (sym e) (xor_lt exponent i 4 (subst (λ w. i < w) e l) (omega (arith, pow_below 2 exponent (omega arith))));
  apart = λ i j k l q. sym (swapped_twice i) ∙ ap swapped_index q ∙ swapped_twice j;
}
