-- Positions of an order that no crate of the layer knows of.
use Rattle.std.proofs.Common.{◌≡◌, ℕ, zero, suc, ◌<◌, [], ◌∷◌, sym, ap, ◌∙◌, refl, arith}
use Rattle.std.specs.Prelude.{slice_index}
use Rattle.bitvec.specs.Order.{IsOneToOne}

-- the position of index i of a byte, by a table
abbrev pub mixed_position : ℕ → ℕ
mixed_position i = slice_index (6 ∷ 3 ∷ 0 ∷ 5 ∷ 2 ∷ 7 ∷ 4 ∷ 1 ∷ []) i

-- the index of a position
mixed_index : ℕ → ℕ
mixed_index p = slice_index (2 ∷ 7 ∷ 4 ∷ 1 ∷ 6 ∷ 3 ∷ 0 ∷ 5 ∷ []) p

mixed_back : (i : ℕ) → i < 8 → (mixed_index (mixed_position i) ≡ i) × (mixed_position i < 8)
unfolding mixed_index
mixed_back zero h = (refl, omega arith)
mixed_back (suc zero) h = (refl, omega arith)
mixed_back (suc (suc zero)) h = (refl, omega arith)
mixed_back (suc (suc (suc zero))) h = (refl, omega arith)
mixed_back (suc (suc (suc (suc zero)))) h = (refl, omega arith)
mixed_back (suc (suc (suc (suc (suc zero))))) h = (refl, omega arith)
mixed_back (suc (suc (suc (suc (suc (suc zero)))))) h = (refl, omega arith)
mixed_back (suc (suc (suc (suc (suc (suc (suc zero))))))) h = (refl, omega arith)
mixed_back (suc (suc (suc (suc (suc (suc (suc (suc i)))))))) h = absurd (omega arith)

pub mixed_one_to_one : IsOneToOne 8 mixed_position
mixed_one_to_one = record {
  below = λ i h. (mixed_back i h).1;
  apart = λ i j h k e. sym (mixed_back i h).0 ∙ ap mixed_index e ∙ (mixed_back j k).0;
}
