-- Slices of a memory by the numbers of their words.
use Rattle.std.proofs.Common.{◌≡◌, ℕ, zero, suc, ◌+◌, ◌-◌, ◌<◌, List, [], ◌∷◌, length, map, take, drop, refl, sym, ap, ◌∙◌, arith, length-drop}
use Rattle.std.proofs.lemmas.List.{take-map, drop-map, take_all, get_or-drop}
use Rattle.std.specs.Prelude.{slice_index, slice_range}

take_one : {X : Type 0} (f : X → ℕ) (xs : List X) (n : ℕ) → n ≡ 1 → slice_index (map f (take n xs)) 0 ≡ slice_index (map f xs) 0
take_one f [] n e = rw e refl
take_one f (x ∷ xs) n e = rw e refl

-- the one word of a slice of length one
pub slice_index-one : {X : Type 0} (f : X → ℕ) (xs : List X) (i : ℕ) → slice_index (map f (slice_range xs i (i + 1))) 0 ≡ slice_index (map f xs) i
slice_index-one f xs i = take_one f (drop i xs) (i + 1 - i) (omega arith) ∙ dropped f xs i
  where
    dropped : {X : Type 0} (f : X → ℕ) (xs : List X) (i : ℕ) → slice_index (map f (drop i xs)) 0 ≡ slice_index (map f xs) i
    dropped f [] zero = refl
    dropped f [] (suc i) = refl
    dropped f (x ∷ xs) zero = refl
    dropped f (x ∷ xs) (suc i) = dropped f xs i

-- a slice of the numbers is the numbers of the slice
pub map-slice : {X : Type 0} (f : X → ℕ) (xs : List X) (a b : ℕ) → map f (slice_range xs a b) ≡ slice_range (map f xs) a b
map-slice f xs a b = sym (take-map f (b - a) (drop a xs)) ∙ ap (take (b - a)) (sym (drop-map f a xs))

first_alone : (xs : List ℕ) (n : ℕ) → n ≡ 1 → 0 < length xs → take n xs ≡ slice_index xs 0 ∷ []
first_alone [] n e h = absurd (omega arith)
first_alone (x ∷ xs) n e h = rw e refl

-- a slice of length one is its one word
pub slice_range-one : (xs : List ℕ) (i : ℕ) → i < length xs → slice_range xs i (i + 1) ≡ slice_index xs i ∷ []
slice_range-one xs i h =
    first_alone (drop i xs) (i + 1 - i) (omega arith) (omega (arith, length-drop i xs))
    ∙ ap (λ x. x ∷ []) (get_or-drop i xs 0 0 ∙ ap (slice_index xs) (let same : i + 0 ≡ i = omega arith in same))

-- a slice from the first word to the last
pub slice_range-all : (xs : List ℕ) (n : ℕ) → n ≡ length xs → slice_range xs 0 (0 + n) ≡ xs
slice_range-all xs n e = take_all (0 + n - 0) xs (omega arith)
