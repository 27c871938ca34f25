-- Lists of truth values as sets: a list is a subset of its union with another, and their common part of it.
use Rattle.std.proofs.Common.{◌≡◌, Bool, true, false, List, [], ◌∷◌, length, arith, refl, sym, true≢false}
use Rattle.std.specs.Prelude.{◌||◌, ◌&&◌, IsTrue}
use Rattle.std.specs.List.{AllZip}
use Rattle.bitvec.specs.Memory.{zip_with}

-- each list is a subset of its union with another
pub below_union : (xs ys : List Bool) → length ys ≡ length xs → AllZip (λ x y. IsTrue x → IsTrue y) ys (zip_with (λ a b. a || b) xs ys)
unfolding zip_with
below_union [] [] same = tt
below_union [] (y ∷ ys) same = absurd (omega (arith, same))
below_union (x ∷ xs) [] same = absurd (omega (arith, same))
below_union (false ∷ xs) (y ∷ ys) same = (λ h. h, below_union xs ys (omega (arith, same)))
below_union (true ∷ xs) (y ∷ ys) same = (λ h. refl, below_union xs ys (omega (arith, same)))

-- what two lists have in common is a subset of each
pub common_below : (xs ys : List Bool) → length ys ≡ length xs → AllZip (λ x y. IsTrue x → IsTrue y) (zip_with (λ a b. a && b) xs ys) ys
unfolding zip_with
common_below [] [] same = tt
common_below [] (y ∷ ys) same = absurd (omega (arith, same))
common_below (x ∷ xs) [] same = absurd (omega (arith, same))
common_below (false ∷ xs) (y ∷ ys) same = (λ h. absurd (true≢false (sym h)), common_below xs ys (omega (arith, same)))
common_below (true ∷ xs) (y ∷ ys) same = (λ h. h, common_below xs ys (omega (arith, same)))
