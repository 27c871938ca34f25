-- Lists that were made longer by elements of no account, and then written: `zs` begins with `xs`.
use Rattle.std.proofs.Common.{◌≡◌, ℕ, suc, ◌+◌, ◌-◌, ◌<◌, ◌≤◌, Bool, false, List, [], ◌∷◌, ◌++◌, length, take, drop, get_or, replicate, sym, ap, ◌∙◌, arith, length-append, length-drop, length-take-le}
use Rattle.std.specs.Prelude.{slice_set, swap}
use Rattle.std.specs.List.{insert, remove, swap_remove}
use Rattle.std.proofs.lemmas.List.{set_split, drop_all, append-nil, take_at, drop_at, take_all, take-append-le, take-take, drop-take, take-set}
use Rattle.std.proofs.lemmas.List.Edits.{swap_is}
use Rattle.bitvec.specs.Memory.{list_with_copy}
use Rattle.bitvec_slice.specs.Ranges.{with_range}

module _ (xs zs : List Bool) (n : ℕ) (long : length xs ≡ n) (begins : take n zs ≡ xs) where
  -- the one element more is written
  pub pushed : (bit : Bool) → length zs ≡ n + 1 → slice_set zs n bit ≡ xs ++ bit ∷ []
  pushed bit longer =
      set_split zs n bit (omega (arith, longer))
      ∙ ap (λ us. us ++ bit ∷ drop (suc n) zs) begins
      ∙ ap (λ us. xs ++ bit ∷ us) (drop_all (suc n) zs (omega (arith, longer)))

  -- the elements more are written
  pub extended : (ys : List Bool) (m : ℕ) → length zs ≡ n + m → with_range zs n (n + m) ys ≡ xs ++ ys
  extended ys m longer =
      ap (λ us. us ++ ys ++ drop (n + m) zs) begins
      ∙ ap (λ us. xs ++ ys ++ us) (drop_all (n + m) zs (omega (arith, longer)))
      ∙ append-nil (xs ++ ys)

  -- the elements from index i on are moved up by one, and the one at i is written
  pub inserted : (bit : Bool) (i : ℕ) → length zs ≡ n + 1 → i ≤ n → slice_set (list_with_copy zs i zs (i + 1) (n - i)) i bit ≡ insert xs i bit
  inserted bit i longer inside =
      let a : List Bool = take (i + 1) zs in
      let b : List Bool = take (n - i) (drop i zs) in
      let c : List Bool = drop (i + 1 + (n - i)) zs in
      let moved : List Bool = a ++ b ++ c in
      let long_a : length a ≡ i + 1 = length-take-le (i + 1) zs (omega (arith, longer, inside)) in
      let none : c ≡ [] = drop_all (i + 1 + (n - i)) zs (omega (arith, longer, inside)) in
      let is : moved ≡ a ++ b = ap (λ us. a ++ b ++ us) none ∙ append-nil (a ++ b) in
      let whole : i + (n - i) ≡ n = omega (arith, inside) in
      let front : take i moved ≡ take i xs =
      ap (take i) is ∙ take-append-le i a b (omega (arith, long_a)) ∙ take-take i (i + 1) zs (omega arith) ∙ sym (take-take i n zs inside) ∙ ap (take i) begins in
      let back : drop (suc i) moved ≡ drop i xs =
      ap (drop (suc i)) is ∙ drop_at a b (suc i) (omega (arith, long_a)) ∙ sym (drop-take i (n - i) zs) ∙ ap (λ m. drop i (take m zs)) whole ∙ ap (drop i) begins in
      set_split moved i bit (omega (arith, ap length is, length-append a b, long_a))
      ∙ ap (λ us. us ++ bit ∷ drop (suc i) moved) front
      ∙ ap (λ us. take i xs ++ bit ∷ us) back

module _ (xs : List Bool) (n : ℕ) (long : length xs ≡ n) where
  -- the elements behind index i are moved down by one, and the last is taken away
  pub removed : (i : ℕ) → i < n → take (n - 1) (list_with_copy xs (i + 1) xs i (n - (i + 1))) ≡ remove xs i
  removed i inside =
      let a : List Bool = take i xs in
      let b : List Bool = take (n - (i + 1)) (drop (i + 1) xs) in
      let c : List Bool = drop (i + (n - (i + 1))) xs in
      let long_a : length a ≡ i = length-take-le i xs (omega (arith, long, inside)) in
      let next : i + 1 ≡ suc i = omega arith in
      let all : b ≡ drop (suc i) xs = take_all (n - (i + 1)) (drop (i + 1) xs) (omega (arith, length-drop (i + 1) xs, long)) ∙ ap (λ m. drop m xs) next in
      let long_b : length b ≡ n - (i + 1) = length-take-le (n - (i + 1)) (drop (i + 1) xs) (omega (arith, length-drop (i + 1) xs, long)) in
      let both : length (a ++ b) ≡ n - 1 = omega (arith, length-append a b, long_a, long_b, inside) in
      take_at (a ++ b) c (n - 1) both ∙ ap (λ us. a ++ us) all

  -- an element is exchanged with the last, which is taken away
  pub swap-removed : (i : ℕ) → i < n → take (n - 1) (swap xs i (n - 1)) ≡ swap_remove xs i false
  swap-removed i inside =
      let last : n - 1 ≡ length xs - 1 = omega (arith, long) in
      ap (take (n - 1)) (sym (swap_is xs i (n - 1) false (omega (arith, long, inside)) (omega (arith, long, inside))))
      ∙ take-set (slice_set xs i (get_or xs (n - 1) false)) (n - 1) (get_or xs i false)
      ∙ ap (λ m. take m (slice_set xs i (get_or xs m false))) last

-- a list that begins with another of its length is that one
pub not-grown : (xs zs : List Bool) → length zs ≡ length xs → take (length xs) zs ≡ xs → zs ≡ xs
not-grown xs zs long begins = sym (take_all (length xs) zs (omega (arith, long))) ∙ begins

-- a list of one value, behind none
pub repeated : (xs : List Bool) (n : ℕ) (bit : Bool) → xs ≡ [] → take n xs ++ replicate (n - length xs) bit ≡ replicate n bit
repeated xs n bit none =
    ap (λ (ys : List Bool). take n ys ++ replicate (n - length ys) bit) none
    ∙ ap (λ (ys : List Bool). ys ++ replicate (n - 0) bit) (take_all n [] (omega arith))
    ∙ ap (λ m. replicate m bit) (let all : n - 0 ≡ n = omega arith in all)
