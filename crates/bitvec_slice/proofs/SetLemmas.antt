-- Two lists combined as far as both go.
use Rattle.std.proofs.Common.{◌≡◌, ℕ, ◌-◌, ◌<◌, ◌≤◌, List, [], ◌∷◌, ◌++◌, length, take, drop, replicate, min, ap, sym, ◌∙◌, arith, inl, inr, length-append, length-drop}
use Rattle.std.proofs.Math.Nat.{le-min, min-eq_left, min-eq_right}
use Rattle.std.proofs.lemmas.Bool.{cases_lt}
use Rattle.std.proofs.lemmas.List.{take_all, take_at, drop_all, append-nil}
use Rattle.bitvec.specs.Memory.{zip_with}
use Rattle.bitvec.proofs.CombineLemmas.{long-zip_with}
use Rattle.bitvec.proofs.ZipLemmas.{take-zip_with}

-- there are no more pairs than either has elements
pub most-zip_with : {A B C : Type 0} (f : A → B → C) (xs : List A) (ys : List B) → (length (zip_with f xs ys) ≤ length xs) × (length (zip_with f xs ys) ≤ length ys)
unfolding zip_with
most-zip_with f [] ys = (omega arith, omega arith)
most-zip_with f (x ∷ xs) [] = (omega arith, omega arith)
most-zip_with f (x ∷ xs) (y ∷ ys) = let rest = most-zip_with f xs ys in (omega (arith, rest.0), omega (arith, rest.1))

module _ {A : Type 0} (f : A → A → A) (xs ys : List A) where
  -- the first `n` of both, where the shorter one has `n`, give all pairs
  pub pairs_as_far : (n : ℕ) → n ≡ min (length xs) (length ys) → zip_with f (take n xs) (take n ys) ≡ zip_with f xs ys
  pairs_as_far n e =
      let most = most-zip_with f xs ys in
      take-zip_with f n xs ys ∙ take_all n (zip_with f xs ys) (omega (arith, e, le-min most.0 most.1))

  -- the first `n` of both, where the shorter one has `n`, are combined
  pub as_far : (n : ℕ) → n ≡ min (length xs) (length ys) → zip_with f (take n xs) (take n ys) ++ drop n xs ≡ zip_with f xs ys ++ drop (length ys) xs
  as_far n e =
      let pairs = pairs_as_far n e in
      let rest : drop n xs ≡ drop (length ys) xs =
      elim (cases_lt (length xs) (length ys)) [
        | inl fewer ↦ (
            let all = min-eq_left {n = length xs} {m = length ys} (omega (arith, fewer)) in
            drop_all n xs (omega (arith, e, all)) ∙ sym (drop_all (length ys) xs (omega (arith, fewer))))
        | inr as_many ↦ ap (λ k. drop k xs) (e ∙ min-eq_right {n = length ys} {m = length xs} as_many)
      ] in
      (λ m. pairs m ++ rest m)

  -- a list that goes on no further than the other has no rest
  pub no_rest : (zero : A) → length xs ≤ length ys → zip_with f xs ys ++ drop (length ys) xs ≡ zip_with f xs ys ++ replicate (length xs - length ys) zero
  no_rest zero h =
      let none : length xs - length ys ≡ 0 = omega (arith, h) in
      ap (λ zs. zip_with f xs ys ++ zs) (drop_all (length ys) xs h ∙ sym (ap (λ n. replicate n zero) none))

  -- the rest is put in the place of the bits behind the pairs
  pub rest_replaced : (zero : A) → length ys < length xs
      → let zs : List A = zip_with f xs ys ++ drop (length ys) xs in
      take (length ys) zs ++ replicate (length xs - length ys) zero ++ drop (length xs) zs ≡ zip_with f xs ys ++ replicate (length xs - length ys) zero
  rest_replaced zero h =
      let pairs : List A = zip_with f xs ys in
      let rest : List A = drop (length ys) xs in
      let least = long-zip_with f xs ys (length ys) (omega (arith, h)) (omega arith) in
      let long : length pairs ≡ length ys = omega (arith, least, (most-zip_with f xs ys).1) in
      let all = drop_all (length xs) (pairs ++ rest) (omega (arith, long, length-append pairs rest, length-drop (length ys) xs)) in
      (λ m. take_at pairs rest (length ys) long m ++ replicate (length xs - length ys) zero ++ all m)
      ∙ append-nil (pairs ++ replicate (length xs - length ys) zero)
