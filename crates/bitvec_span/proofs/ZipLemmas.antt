-- Two lists combined place by place.
use Rattle.std.proofs.Common.{◌≡◌, ℕ, zero, suc, List, [], ◌∷◌, length, take, refl, ap, arith}
use Rattle.bitvec_ptr.specs.Memory.{zip_with}

-- two lists of one length give a list of that length
pub length-zip_with : {A B C : Type 0} (f : A → B → C) (xs : List A) (ys : List B) → length ys ≡ length xs → length (zip_with f xs ys) ≡ length xs
unfolding zip_with
length-zip_with f [] ys e = refl
length-zip_with f (x ∷ xs) [] e = absurd (omega (arith, e))
length-zip_with f (x ∷ xs) (y ∷ ys) e = ap suc (length-zip_with f xs ys (omega (arith, e)))

-- the first of both give the first
pub take-zip_with : {A B C : Type 0} (f : A → B → C) (n : ℕ) (xs : List A) (ys : List B) → zip_with f (take n xs) (take n ys) ≡ take n (zip_with f xs ys)
unfolding zip_with
take-zip_with f zero xs ys = refl
take-zip_with f (suc n) [] ys = refl
take-zip_with f (suc n) (x ∷ xs) [] = refl
take-zip_with f (suc n) (x ∷ xs) (y ∷ ys) = ap (λ zs. f x y ∷ zs) (take-zip_with f n xs ys)
