-- Positions of two orders of the tests, which no crate of the layer knows of.
use Rattle.std.proofs.Common.{◌≡◌, ◌⊎◌, ℕ, zero, suc, ◌+◌, ◌*◌, ◌/◌, ◌%◌, ◌<◌, ◌≤◌, List, [], ◌∷◌, sym, ap, ◌∙◌, refl, inl, inr, arith}
use Rattle.std.specs.Prelude.{slice_index}
use Rattle.std.proofs.lemmas.Bool.{cases_lt}
use Rattle.std.proofs.lemmas.Nat.{div-add-mod', mod_below}
use Rattle.std.proofs.Math.Nat.{div-eq_of_lt-le}
use Rattle.bitvec.specs.Order.{IsOneToOne}

-- the position of index i three further on, round the end of the word
abbrev pub rotated_index : ℕ → ℕ → ℕ
rotated_index width i = (i + 3) % width

-- a number below twice the width, less the width where it is not below it
rest_of : (width n : ℕ) → 0 < width → n < width + width → ((n < width) × (n % width ≡ n)) ⊎ ((width ≤ n) × (n % width + width ≡ n))
rest_of width n some h =
    let parts = div-add-mod' n width in
    let within : n < width → n % width ≡ n = λ less. let none : n / width ≡ 0 = div-eq_of_lt-le width (omega arith) (omega arith) in let rest : 0 * width + n % width ≡ n = rw none at parts in omega (arith, rest) in
    let past : width ≤ n → n % width + width ≡ n = λ more. let once : n / width ≡ 1 = div-eq_of_lt-le width (omega arith) (omega arith) in let rest : 1 * width + n % width ≡ n = rw once at parts in omega (arith, rest) in
    elim (cases_lt n width) [
      | inl below ↦ inl (below, within below)
      | inr above ↦ inr (above, past above)
    ]

pub rotated_one_to_one : (width : ℕ) → 8 ≤ width → IsOneToOne width (rotated_index width)
rotated_one_to_one width wide = record {
  below = λ i h. mod_below (i + 3) width (omega arith);
  apart = λ i j h k e.
      elim (rest_of width (i + 3) (omega arith) (omega arith)) [
        | inl a ↦ elim (rest_of width (j + 3) (omega arith) (omega arith)) [ inl b ↦ omega (arith, a, b, e) | inr b ↦ omega (arith, a, b, e) ]
        | inr a ↦ elim (rest_of width (j + 3) (omega arith) (omega arith)) [ inl b ↦ omega (arith, a, b, e) | inr b ↦ omega (arith, a, b, e) ]
      ];
}

-- the position of index i of a byte, by a table
abbrev pub table_position : ℕ → ℕ
table_position i = slice_index (5 ∷ 2 ∷ 7 ∷ 0 ∷ 3 ∷ 6 ∷ 1 ∷ 4 ∷ []) i

-- the index of a position
index_at : ℕ → ℕ
index_at p = slice_index (3 ∷ 6 ∷ 1 ∷ 4 ∷ 7 ∷ 0 ∷ 5 ∷ 2 ∷ []) p

back : (i : ℕ) → i < 8 → (index_at (table_position i) ≡ i) × (table_position i < 8)
unfolding index_at
back zero h = (refl, omega arith)
back (suc zero) h = (refl, omega arith)
back (suc (suc zero)) h = (refl, omega arith)
back (suc (suc (suc zero))) h = (refl, omega arith)
back (suc (suc (suc (suc zero)))) h = (refl, omega arith)
back (suc (suc (suc (suc (suc zero))))) h = (refl, omega arith)
back (suc (suc (suc (suc (suc (suc zero)))))) h = (refl, omega arith)
back (suc (suc (suc (suc (suc (suc (suc zero))))))) h = (refl, omega arith)
back (suc (suc (suc (suc (suc (suc (suc (suc i)))))))) h = absurd (omega arith)

pub tabled_one_to_one : IsOneToOne 8 table_position
tabled_one_to_one = record {
  below = λ i h. (back i h).1;
  apart = λ i j h k e. sym (back i h).0 ∙ ap index_at e ∙ (back j k).0;
}
