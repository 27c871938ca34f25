-- What the bits of two lists, combined place by place, show of the lists.
use Rattle.std.proofs.Common.{◌≡◌, ℕ, zero, suc, ◌<◌, Bool, true, false, true≢false, not, ◌&&◌, List, [], ◌∷◌, length, refl, sym, ap, subst, ◌∙◌, arith}
use Rattle.std.specs.Prelude.{◌↔◌, IsTrue}
use Rattle.std.specs.Cmp.{ranks, nat_cmp_is}
use Rattle.std.specs.Cmp.Lexicographic.{slice_cmp}
use Rattle.std.specs.List.{AllZip}
use Rattle.std.specs.Ordering.{MatchOrdering, nat_cmp, bool_cmp, ordering_then}
use Rattle.std.specs.declared.cmp.Ordering.{Ordering}
use Rattle.std.specs.declared.cmp.Ordering.TheVariants.{Less, Equal, Greater}
use Rattle.bitvec.specs.Digit.{exclusive_or}
use Rattle.bitvec.specs.Memory.{zip_with}
use Rattle.bitvec.specs.Span.{element}
use Rattle.bitvec.specs.Truths.{AllAre, IsFirst}

-- none of the pairs is combined to a true element exactly where a relation holds of each
module _ (f : Bool → Bool → Bool) (R : Bool → Bool → Type 0) (shows : (x y : Bool) → (f x y ≡ false) ↔ R x y) where
  each_pair : (xs ys : List Bool) → length ys ≡ length xs → AllAre false (zip_with f xs ys) → AllZip R xs ys
  unfolding zip_with
  each_pair [] [] e all = tt
  each_pair [] (y ∷ ys) e all = absurd (omega (arith, e))
  each_pair (x ∷ xs) [] e all = absurd (omega (arith, e))
  each_pair (x ∷ xs) (y ∷ ys) e all = ((shows x y).0 (all 0 (omega arith)), each_pair xs ys (omega (arith, e)) (λ j h. all (suc j) (omega (arith, h))))

  no_pair : (xs ys : List Bool) → AllZip R xs ys → AllAre false (zip_with f xs ys)
  unfolding zip_with
  no_pair [] ys all j h = absurd (omega (arith, h))
  no_pair (x ∷ xs) [] all j h = absurd (omega (arith, h))
  no_pair (x ∷ xs) (y ∷ ys) all zero h = (shows x y).1 all.0
  no_pair (x ∷ xs) (y ∷ ys) all (suc j) h = no_pair xs ys all.1 j (omega (arith, h))

  pub pairs_show : (xs ys : List Bool) → length ys ≡ length xs → AllAre false (zip_with f xs ys) ↔ AllZip R xs ys
  pairs_show xs ys e = (each_pair xs ys e, no_pair xs ys)

only_first : (x y : Bool) → ((x && not y) ≡ false) ↔ (IsTrue x → IsTrue y)
only_first true true = ((λ e yes. refl), λ f. refl)
only_first true false = ((λ e yes. sym e), λ f. sym (f refl))
only_first false y = ((λ e yes. absurd (true≢false (sym yes))), λ f. refl)

-- no element is true in the first list alone exactly where each that is true there is true in the other
pub subset_shows : (xs ys : List Bool) → length ys ≡ length xs → AllAre false (zip_with (λ x y. x && not y) xs ys) ↔ AllZip (λ x y. IsTrue x → IsTrue y) xs ys
subset_shows = pairs_show (λ x y. x && not y) (λ x y. IsTrue x → IsTrue y) only_first

same_pair : (x y : Bool) → (exclusive_or x y ≡ false) ↔ (x ≡ y)
same_pair true true = ((λ e. refl), λ e. refl)
same_pair true false = ((λ e. e), λ e. e)
same_pair false true = ((λ e. sym e), λ e. sym e)
same_pair false false = ((λ e. refl), λ e. refl)

zipped_same : (xs ys : List Bool) → AllZip (λ x y. x ≡ y) xs ys → xs ≡ ys
zipped_same [] [] all = refl
zipped_same [] (y ∷ ys) all = absurd all
zipped_same (x ∷ xs) [] all = absurd all
zipped_same (x ∷ xs) (y ∷ ys) all = (λ m. all.0 m ∷ zipped_same xs ys all.1 m)

same_zipped : (xs : List Bool) → AllZip (λ x y. x ≡ y) xs xs
same_zipped [] = tt
same_zipped (x ∷ xs) = (refl, same_zipped xs)

-- no two elements differ exactly where the lists are the same
pub difference_shows : (xs ys : List Bool) → length ys ≡ length xs → AllAre false (zip_with exclusive_or xs ys) ↔ (xs ≡ ys)
difference_shows xs ys e =
    let pairs = pairs_show exclusive_or (λ x y. x ≡ y) same_pair xs ys e in (
      (λ all. zipped_same xs ys (pairs.0 all)),
      λ same. pairs.1 (let P : List Bool → Type 0 = λ zs. AllZip (λ x y. x ≡ y) xs zs in subst P same (same_zipped xs)),
    )

one_further : (m n : ℕ) (r : Ordering) → MatchOrdering r (m < n) (m ≡ n) (n < m) → MatchOrdering r (suc m < suc n) (suc m ≡ suc n) (suc n < suc m)
one_further m n Less h = omega (arith, h)
one_further m n Equal h = ap suc h
one_further m n Greater h = omega (arith, h)

same_start : (x y : Bool) (rest : Ordering) → exclusive_or x y ≡ false → ordering_then (bool_cmp x y) rest ≡ rest
same_start true true rest e = refl
same_start true false rest e = absurd (true≢false e)
same_start false true rest e = absurd (true≢false e)
same_start false false rest e = refl

-- two lists with no difference as far as both go are ordered as their lengths
pub ordered_by_length : (xs ys : List Bool) → AllAre false (zip_with exclusive_or xs ys) → slice_cmp bool_cmp xs ys ≡ nat_cmp (length xs) (length ys)
unfolding zip_with
ordered_by_length [] [] all = refl
ordered_by_length [] (y ∷ ys) all = nat_cmp_is 0 (suc (length ys)) Less (omega arith)
ordered_by_length (x ∷ xs) [] all = nat_cmp_is (suc (length xs)) 0 Greater (omega arith)
ordered_by_length (x ∷ xs) (y ∷ ys) all =
    same_start x y (slice_cmp bool_cmp xs ys) (all 0 (omega arith))
    ∙ ordered_by_length xs ys (λ j h. all (suc j) (omega (arith, h)))
    ∙ nat_cmp_is (suc (length xs)) (suc (length ys)) (nat_cmp (length xs) (length ys)) (one_further (length xs) (length ys) (nat_cmp (length xs) (length ys)) (ranks (length xs) (length ys)))

settled : (x y : Bool) (rest : Ordering) → exclusive_or x y ≡ true → ordering_then (bool_cmp x y) rest ≡ bool_cmp x y
settled true true rest e = absurd (true≢false (sym e))
settled true false rest e = refl
settled false true rest e = refl
settled false false rest e = absurd (true≢false (sym e))

-- two lists are ordered as the elements of their first difference
pub ordered_by_first : (xs ys : List Bool) (i : ℕ) → IsFirst true (zip_with exclusive_or xs ys) i → slice_cmp bool_cmp xs ys ≡ bool_cmp (element xs i) (element ys i)
unfolding zip_with
ordered_by_first [] ys i first = let below = first.0 in absurd (omega (arith, below))
ordered_by_first (x ∷ xs) [] i first = let below = first.0 in absurd (omega (arith, below))
ordered_by_first (x ∷ xs) (y ∷ ys) zero first = settled x y (slice_cmp bool_cmp xs ys) first.1
ordered_by_first (x ∷ xs) (y ∷ ys) (suc i) first =
    let below = first.0 in
    same_start x y (slice_cmp bool_cmp xs ys) (first.2 0 (omega arith))
    ∙ ordered_by_first xs ys i (omega (arith, below), first.1, λ j h. first.2 (suc j) (omega (arith, h)))

-- two answers that are true together are the same
pub same_answer : (a b : Bool) → (a ≡ true → b ≡ true) → (b ≡ true → a ≡ true) → a ≡ b
same_answer true b f h = sym (f refl)
same_answer false true f h = h refl
same_answer false false f h = refl
