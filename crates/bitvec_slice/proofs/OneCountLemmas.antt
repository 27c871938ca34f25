-- How many elements of a list are true, and how many are false: for each edit of the list, and for each word by which a
-- call says that they are all alike. A caller has them all by one attribute, `counts` at the end.
use Rattle.std.proofs.Common.{◌≡◌, ◌↔◌, ℕ, suc, ◌+◌, ◌-◌, ◌*◌, ◌<◌, ◌≤◌, Bool, true, false, not, ◌&&◌, ◌||◌, if◌then◌else◌, List, [], ◌∷◌, ◌++◌, length, take, drop, replicate, map, set, reverse, refl, sym, ap, ◌∙◌, inl, inr, arith}
use Rattle.std.specs.Prelude.{slice_set, slice_range}
use Rattle.std.specs.List.{count_by, swap, insert, remove}
use Rattle.std.proofs.lemmas.Bool.{cases_eq}
use Rattle.std.proofs.lemmas.List.{take-append-drop, ext_get_or, get_or-replicate, get_or-set_same, get_or-set_other, length-map, length-replicate, length-set, reverse-append}
use Rattle.std.proofs.lemmas.List.Edits.{split_between, swap_is, length-between, get_or-between}
use Rattle.std.proofs.lemmas.List.Folds.{sum_by-replicate}
use Rattle.std.proofs.lemmas.List.Sums.{sum_by-cons, sum_by-append, sum_by-set, sum_by-insert, sum_by-remove}
use Rattle.bitvec.specs.Digit.{count_below, exclusive_or}
use Rattle.bitvec.specs.Memory.{tabulate, zip_with}
use Rattle.bitvec.specs.Span.{element, with_filled}
use Rattle.bitvec.specs.Truths.{ones_in, AllAre}
use Rattle.bitvec_slice.specs.Bits.{zeros_in, AllBetween, AreFree}
use Rattle.bitvec_slice.specs.Ranges.{with_range}
use Rattle.bitvec.proofs.CountLemmas.{count_split, count_both, count_none}
use Rattle.bitvec.proofs.DigitLemmas.{count_below-same, none_place}
use Rattle.bitvec.proofs.MemoryLemmas.{length-tabulate}

-- the elements that pass a test, counted by index, are those that std counts
counted_by : (p : Bool → Bool) (xs : List Bool) → count_below (λ i. p (element xs i)) (length xs) ≡ count_by p xs
unfolding count_below
counted_by p [] = refl
counted_by p (x ∷ xs) =
    let f : ℕ → Bool = λ i. p (element (x ∷ xs) i) in
    let more : length (x ∷ xs) ≡ 1 + length xs = omega arith in
    let rest = count_below-same (λ i. f (1 + i)) (λ i. p (element xs i)) (length xs) (λ i lt. let e : 1 + i ≡ suc i = omega arith in ap f e) in
    let first = sum_by-cons (λ y. if p y then 1 else 0) x xs in
    ap (count_below f) more ∙ omega (arith, count_split f 1 (length xs), rest, counted_by p xs, first)

-- a one or a zero, n times
times : (n : ℕ) (b : Bool) → n * (if b then 1 else 0) ≡ (if b then n else 0)
times n true = omega arith
times n false = omega arith

-- What holds of the elements that pass a test. A one passes `λ y. y`, a zero passes `not`.
module _ (p : Bool → Bool) where
  passing : List Bool → ℕ
  passing xs = count_below (λ i. p (element xs i)) (length xs)

  weight : Bool → ℕ
  weight b = if p b then 1 else 0

  none : passing [] ≡ 0
  unfolding passing
  none = counted_by p []

  cons : (x : Bool) (xs : List Bool) → passing (x ∷ xs) ≡ weight x + passing xs
  unfolding passing weight
  cons x xs = counted_by p (x ∷ xs) ∙ sum_by-cons (λ y. if p y then 1 else 0) x xs ∙ sym (ap (λ n. weight x + n) (counted_by p xs))

  joined : (xs ys : List Bool) → passing (xs ++ ys) ≡ passing xs + passing ys
  unfolding passing
  joined xs ys = counted_by p (xs ++ ys) ∙ sum_by-append (λ y. if p y then 1 else 0) xs ys ∙ sym (λ m. counted_by p xs m + counted_by p ys m)

  put : (xs : List Bool) (i : ℕ) (b : Bool) → i < length xs → passing (set xs i b) + weight (element xs i) ≡ passing xs + weight b
  unfolding passing weight
  put xs i b h =
      (λ m. counted_by p (set xs i b) m + weight (element xs i))
      ∙ sum_by-set (λ y. if p y then 1 else 0) xs i b false h
      ∙ sym (λ m. counted_by p xs m + weight b)

  alike : (n : ℕ) (b : Bool) → passing (replicate n b) ≡ (if p b then n else 0)
  unfolding passing
  alike n b = counted_by p (replicate n b) ∙ sum_by-replicate (λ y. if p y then 1 else 0) n b ∙ times n (p b)

  cut : (xs : List Bool) (n : ℕ) → passing (take n xs) + passing (drop n xs) ≡ passing xs
  cut xs n = sym (joined (take n xs) (drop n xs)) ∙ ap passing (take-append-drop n xs)

  ranged : (xs : List Bool) (from to : ℕ) (ys : List Bool) → from ≤ to → passing (with_range xs from to ys) + passing (slice_range xs from to) ≡ passing xs + passing ys
  ranged xs from to ys h =
      let all : passing xs ≡ passing (take from xs ++ (slice_range xs from to ++ drop to xs)) = ap passing (split_between xs from to h) in
      omega (arith, all, joined (take from xs) (slice_range xs from to ++ drop to xs), joined (slice_range xs from to) (drop to xs), joined (take from xs ++ ys) (drop to xs), joined (take from xs) ys)

  filled : (xs : List Bool) (from to : ℕ) (b : Bool) → from ≤ to → passing (with_filled xs from to b) + passing (slice_range xs from to) ≡ passing xs + (if p b then to - from else 0)
  filled xs from to b h = ranged xs from to (replicate (to - from) b) h ∙ ap (λ n. passing xs + n) (alike (to - from) b)

  stretch : (xs : List Bool) (from to : ℕ) (b : Bool) → to ≤ length xs → AllBetween b xs from to → passing (slice_range xs from to) ≡ (if p b then to - from else 0)
  stretch xs from to b h all =
      let long = length-between xs from to h in
      let same = ext_get_or false (slice_range xs from to) (replicate (to - from) b) (long ∙ sym (length-replicate (to - from) b))
      (λ j lt.
      get_or-between xs from to j false (omega (arith, long))
      ∙ all (from + j) (omega arith) (omega (arith, long))
      ∙ sym (get_or-replicate (to - from) j b false (omega (arith, long)))) in
      ap passing same ∙ alike (to - from) b

  back : (xs : List Bool) → passing (reverse xs) ≡ passing xs
  back [] = refl
  back (x ∷ xs) =
      ap passing (reverse-append (x ∷ []) xs)
      ∙ omega (arith, joined (reverse xs) (x ∷ []), cons x [], none, cons x xs, back xs)

  exchanged : (xs : List Bool) (i j : ℕ) → i < length xs → j < length xs → passing (swap xs i j) ≡ passing xs
  exchanged xs i j h k =
      let a : Bool = element xs i in
      let b : Bool = element xs j in
      let here : element (set xs i b) j ≡ b =
      elim (cases_eq j i) [
        | inl e ↦ ap (element (set xs i b)) e ∙ get_or-set_same xs i b false h
        | inr differ ↦ get_or-set_other xs i j b false differ
      ] in
      let first = put xs i b h in
      let second = put (set xs i b) j a (omega (arith, k, length-set xs i b)) in
      ap passing (sym (swap_is xs i j false h k)) ∙ omega (arith, first, second, ap weight here)

-- Two lists are combined in four ways. If the first two give as many ones as the last two at each pair, they do in all.
module _ (f g h k : Bool → Bool → Bool) (law : (x y : Bool) → weight (λ b. b) (f x y) + weight (λ b. b) (g x y) ≡ weight (λ b. b) (h x y) + weight (λ b. b) (k x y)) where
  paired : (xs ys : List Bool) → passing (λ b. b) (zip_with f xs ys) + passing (λ b. b) (zip_with g xs ys) ≡ passing (λ b. b) (zip_with h xs ys) + passing (λ b. b) (zip_with k xs ys)
  unfolding zip_with
  paired [] ys = refl
  paired (x ∷ xs) [] = refl
  paired (x ∷ xs) (y ∷ ys) =
      let rest = paired xs ys in
      omega (arith, cons (λ b. b) (f x y) (zip_with f xs ys), cons (λ b. b) (g x y) (zip_with g xs ys), cons (λ b. b) (h x y) (zip_with h xs ys), cons (λ b. b) (k x y) (zip_with k xs ys), law x y, rest)

-- the pairs of two lists of one length, of which the first, the second or neither is taken
first_of_pairs : (xs ys : List Bool) → length ys ≡ length xs → zip_with (λ x y. x) xs ys ≡ xs
unfolding zip_with
first_of_pairs [] ys e = refl
first_of_pairs (x ∷ xs) [] e = absurd (omega (arith, e))
first_of_pairs (x ∷ xs) (y ∷ ys) e = ap (λ zs. x ∷ zs) (first_of_pairs xs ys (omega (arith, e)))

second_of_pairs : (xs ys : List Bool) → length ys ≡ length xs → zip_with (λ x y. y) xs ys ≡ ys
unfolding zip_with
second_of_pairs [] [] e = refl
second_of_pairs [] (y ∷ ys) e = absurd (omega (arith, e))
second_of_pairs (x ∷ xs) [] e = absurd (omega (arith, e))
second_of_pairs (x ∷ xs) (y ∷ ys) e = ap (λ zs. y ∷ zs) (second_of_pairs xs ys (omega (arith, e)))

none_of_pairs : (xs ys : List Bool) → passing (λ b. b) (zip_with (λ x y. false) xs ys) ≡ 0
unfolding zip_with weight
none_of_pairs [] ys = none (λ b. b)
none_of_pairs (x ∷ xs) [] = none (λ b. b)
none_of_pairs (x ∷ xs) (y ∷ ys) = let rest = none_of_pairs xs ys in omega (arith, cons (λ b. b) false (zip_with (λ x y. false) xs ys), rest)

-- a choice by a truth value that is turned over
turned : (b : Bool) (m n : ℕ) → (if not b then m else n) ≡ (if b then n else m)
turned true m n = refl
turned false m n = refl

-- what is true once it is turned over is false before
not_false : (b : Bool) → not b ≡ false → b ≡ true
not_false true e = refl
not_false false e = cc

-- ones and zeros are counted as std's `count_by` does
pub ones-count_by : (xs : List Bool) → ones_in xs ≡ count_by (λ y. y) xs
ones-count_by xs = counted_by (λ y. y) xs

pub zeros-count_by : (xs : List Bool) → zeros_in xs ≡ count_by not xs
zeros-count_by xs = counted_by not xs

-- the ones and the zeros are together all elements
pub ones-zeros : (xs : List Bool) → ones_in xs + zeros_in xs ≡ length xs
ones-zeros xs = count_both (element xs) (length xs)

-- a list of n elements that are all the same
pub ones-replicate : (n : ℕ) (b : Bool) → ones_in (replicate n b) ≡ (if b then n else 0)
unfolding passing
ones-replicate n b = alike (λ y. y) n b

pub zeros-replicate : (n : ℕ) (b : Bool) → zeros_in (replicate n b) ≡ (if b then 0 else n)
unfolding passing
zeros-replicate n b = alike not n b ∙ turned b n 0

-- two lists, one behind the other, have what both have
pub ones-append : (xs ys : List Bool) → ones_in (xs ++ ys) ≡ ones_in xs + ones_in ys
unfolding passing
ones-append xs ys = joined (λ y. y) xs ys

pub zeros-append : (xs ys : List Bool) → zeros_in (xs ++ ys) ≡ zeros_in xs + zeros_in ys
unfolding passing
zeros-append xs ys = joined not xs ys

-- a list with one more element at its end
pub ones-push : (xs : List Bool) (b : Bool) → ones_in (xs ++ b ∷ []) ≡ ones_in xs + (if b then 1 else 0)
unfolding passing weight
ones-push xs b = omega (arith, ones-append xs (b ∷ []), cons (λ y. y) b [], none (λ y. y))

pub zeros-push : (xs : List Bool) (b : Bool) → zeros_in (xs ++ b ∷ []) ≡ zeros_in xs + (if b then 0 else 1)
unfolding passing weight
zeros-push xs b = omega (arith, zeros-append xs (b ∷ []), cons not b [], none not, turned b 1 0)

-- a list with one element put in before element i, or with element i taken out
pub ones-insert : (xs : List Bool) (i : ℕ) (b : Bool) → ones_in (insert xs i b) ≡ ones_in xs + (if b then 1 else 0)
ones-insert xs i b = counted_by (λ y. y) (insert xs i b) ∙ sum_by-insert (λ y. if y then 1 else 0) xs i b ∙ sym (ap (λ n. n + (if b then 1 else 0)) (counted_by (λ y. y) xs))

pub zeros-insert : (xs : List Bool) (i : ℕ) (b : Bool) → zeros_in (insert xs i b) ≡ zeros_in xs + (if b then 0 else 1)
zeros-insert xs i b = omega (arith, counted_by not (insert xs i b), sum_by-insert (λ y. if not y then 1 else 0) xs i b, counted_by not xs, turned b 1 0)

pub ones-remove : (xs : List Bool) (i : ℕ) → i < length xs → ones_in (remove xs i) + (if element xs i then 1 else 0) ≡ ones_in xs
ones-remove xs i h = omega (arith, counted_by (λ y. y) (remove xs i), sum_by-remove (λ y. if y then 1 else 0) xs i false h, counted_by (λ y. y) xs)

pub zeros-remove : (xs : List Bool) (i : ℕ) → i < length xs → zeros_in (remove xs i) + (if element xs i then 0 else 1) ≡ zeros_in xs
zeros-remove xs i h = omega (arith, counted_by not (remove xs i), sum_by-remove (λ y. if not y then 1 else 0) xs i false h, counted_by not xs, turned (element xs i) 1 0)

-- the first n elements and the others have together what the list has
pub ones-take : (n : ℕ) (xs : List Bool) → ones_in (take n xs) + ones_in (drop n xs) ≡ ones_in xs
unfolding passing
ones-take n xs = cut (λ y. y) xs n

pub zeros-take : (n : ℕ) (xs : List Bool) → zeros_in (take n xs) + zeros_in (drop n xs) ≡ zeros_in xs
unfolding passing
zeros-take n xs = cut not xs n

-- a list in the opposite order has as many
pub ones-reverse : (xs : List Bool) → ones_in (reverse xs) ≡ ones_in xs
unfolding passing
ones-reverse xs = back (λ y. y) xs

pub zeros-reverse : (xs : List Bool) → zeros_in (reverse xs) ≡ zeros_in xs
unfolding passing
zeros-reverse xs = back not xs

-- a list whose elements are all turned over has ones for zeros
pub ones-map_not : (xs : List Bool) → ones_in (map not xs) ≡ zeros_in xs
unfolding passing weight
ones-map_not [] = none (λ y. y) ∙ sym (none not)
ones-map_not (x ∷ xs) = omega (arith, cons (λ y. y) (not x) (map not xs), cons not x xs, ones-map_not xs)

pub zeros-map_not : (xs : List Bool) → zeros_in (map not xs) ≡ ones_in xs
zeros-map_not xs = omega (arith, ones-zeros xs, ones-zeros (map not xs), ones-map_not xs, length-map xs not)

-- Element i is written: what was there goes, and what is written comes.
pub ones-set : (xs : List Bool) (i : ℕ) (b : Bool) → i < length xs → ones_in (slice_set xs i b) + (if element xs i then 1 else 0) ≡ ones_in xs + (if b then 1 else 0)
unfolding passing weight
ones-set xs i b h = put (λ y. y) xs i b h

pub zeros-set : (xs : List Bool) (i : ℕ) (b : Bool) → i < length xs → zeros_in (slice_set xs i b) + (if element xs i then 0 else 1) ≡ zeros_in xs + (if b then 0 else 1)
unfolding passing weight
zeros-set xs i b h = omega (arith, put not xs i b h, turned (element xs i) 1 0, turned b 1 0)

-- a list in which elements i and j are exchanged has as many
pub ones-swap : (xs : List Bool) (i j : ℕ) → i < length xs → j < length xs → ones_in (swap xs i j) ≡ ones_in xs
unfolding passing
ones-swap xs i j h k = exchanged (λ y. y) xs i j h k

pub zeros-swap : (xs : List Bool) (i j : ℕ) → i < length xs → j < length xs → zeros_in (swap xs i j) ≡ zeros_in xs
unfolding passing
zeros-swap xs i j h k = exchanged not xs i j h k

-- The elements from element `from` to before element `to` are made the same: those that were there go.
pub ones-filled : (xs : List Bool) (from to : ℕ) (b : Bool) → from ≤ to → ones_in (with_filled xs from to b) + ones_in (slice_range xs from to) ≡ ones_in xs + (if b then to - from else 0)
unfolding passing
ones-filled xs from to b h = filled (λ y. y) xs from to b h

pub zeros-filled : (xs : List Bool) (from to : ℕ) (b : Bool) → from ≤ to → zeros_in (with_filled xs from to b) + zeros_in (slice_range xs from to) ≡ zeros_in xs + (if b then 0 else to - from)
unfolding passing
zeros-filled xs from to b h = filled not xs from to b h ∙ ap (λ n. zeros_in xs + n) (turned b (to - from) 0)

-- others are put in their place
pub ones-range : (xs : List Bool) (from to : ℕ) (ys : List Bool) → from ≤ to → ones_in (with_range xs from to ys) + ones_in (slice_range xs from to) ≡ ones_in xs + ones_in ys
unfolding passing
ones-range xs from to ys h = ranged (λ y. y) xs from to ys h

pub zeros-range : (xs : List Bool) (from to : ℕ) (ys : List Bool) → from ≤ to → zeros_in (with_range xs from to ys) + zeros_in (slice_range xs from to) ≡ zeros_in xs + zeros_in ys
unfolding passing
zeros-range xs from to ys h = ranged not xs from to ys h

-- the union and the intersection of two lists have as many as both
pub ones-or : (xs ys : List Bool) → length ys ≡ length xs → ones_in (zip_with (λ x y. x || y) xs ys) + ones_in (zip_with (λ x y. x && y) xs ys) ≡ ones_in xs + ones_in ys
unfolding passing weight
ones-or xs ys e =
    let one : Bool → ℕ = weight (λ b. b) in
    let law : (x y : Bool) → one (x || y) + one (x && y) ≡ one x + one y =
    λ x y. elim x as (λ x. one (x || y) + one (x && y) ≡ one x + one y) [ true ↦ omega arith | false ↦ omega arith ] in
    paired (λ x y. x || y) (λ x y. x && y) (λ x y. x) (λ x y. y) law xs ys
    ∙ (λ m. ones_in (first_of_pairs xs ys e m) + ones_in (second_of_pairs xs ys e m))

pub ones-and : (xs ys : List Bool) → length ys ≡ length xs → ones_in (zip_with (λ x y. x && y) xs ys) + ones_in (zip_with (λ x y. x || y) xs ys) ≡ ones_in xs + ones_in ys
ones-and xs ys e = omega (arith, ones-or xs ys e)

-- the difference and the intersection have as many as the first
pub ones-and_not : (xs ys : List Bool) → length ys ≡ length xs → ones_in (zip_with (λ x y. x && not y) xs ys) + ones_in (zip_with (λ x y. x && y) xs ys) ≡ ones_in xs
unfolding passing weight
ones-and_not xs ys e =
    let one : Bool → ℕ = weight (λ b. b) in
    let law : (x y : Bool) → one (x && not y) + one (x && y) ≡ one x + one false =
    λ x y. elim x as (λ x. one (x && not y) + one (x && y) ≡ one x + one false) [
      | true ↦ elim y as (λ y. one (not y) + one y ≡ one true + one false) [ true ↦ omega arith | false ↦ omega arith ]
      | false ↦ omega arith
    ] in
    let all = paired (λ x y. x && not y) (λ x y. x && y) (λ x y. x) (λ x y. false) law xs ys in
    let first = ap (λ zs. ones_in zs) (first_of_pairs xs ys e) in
    let rest = none_of_pairs xs ys in
    omega (arith, all, first, rest)

-- the symmetric difference and the intersection have as many as the union
pub ones-xor : (xs ys : List Bool) → ones_in (zip_with exclusive_or xs ys) + ones_in (zip_with (λ x y. x && y) xs ys) ≡ ones_in (zip_with (λ x y. x || y) xs ys)
unfolding passing weight
ones-xor xs ys =
    let one : Bool → ℕ = weight (λ b. b) in
    let law : (x y : Bool) → one (exclusive_or x y) + one (x && y) ≡ one (x || y) + one false =
    λ x y. elim x as (λ x. one (exclusive_or x y) + one (x && y) ≡ one (x || y) + one false) [
      | true ↦ elim y as (λ y. one (not y) + one y ≡ one true + one false) [ true ↦ omega arith | false ↦ omega arith ]
      | false ↦ omega arith
    ] in
    let all = paired exclusive_or (λ x y. x && y) (λ x y. x || y) (λ x y. false) law xs ys in
    let rest = none_of_pairs xs ys in
    omega (arith, all, rest)

-- No element is true, or all are: that is no ones, or as many as there are elements. The same of zeros.
pub ones-none : (xs : List Bool) → AllAre false xs ↔ (ones_in xs ≡ 0)
ones-none xs = (count_none (element xs) (length xs), none_place (element xs) (length xs))

pub zeros-none : (xs : List Bool) → AllAre true xs ↔ (zeros_in xs ≡ 0)
zeros-none xs = (
  λ all. count_none (λ i. not (element xs i)) (length xs) (λ j h. ap not (all j h)),
  λ e j h. not_false (element xs j) (none_place (λ i. not (element xs i)) (length xs) e j h),
)

pub ones-all : (xs : List Bool) → AllAre true xs ↔ (ones_in xs ≡ length xs)
ones-all xs =
    (λ all. let e = (zeros-none xs).0 all in omega (arith, ones-zeros xs, e), λ e. (zeros-none xs).1 (omega (arith, ones-zeros xs, e)))

pub zeros-all : (xs : List Bool) → AllAre false xs ↔ (zeros_in xs ≡ length xs)
zeros-all xs =
    (λ all. let e = (ones-none xs).0 all in omega (arith, ones-zeros xs, e), λ e. (ones-none xs).1 (omega (arith, ones-zeros xs, e)))

-- of the elements from element `from` to before element `to` none is true, or all are
pub ones-none_between : (xs : List Bool) (from to : ℕ) → to ≤ length xs → AllBetween false xs from to ↔ (ones_in (slice_range xs from to) ≡ 0)
unfolding passing
ones-none_between xs from to h = (
  λ all. stretch (λ y. y) xs from to false h all,
  λ e j low high.
      sym (get_or-between xs from to (j - from) false (omega arith) ∙ ap (element xs) (let s : from + (j - from) ≡ j = omega arith in s))
      ∙ (ones-none (slice_range xs from to)).1 e (j - from) (omega (arith, length-between xs from to h)),
)

pub ones-all_between : (xs : List Bool) (from to : ℕ) → to ≤ length xs → AllBetween true xs from to ↔ (ones_in (slice_range xs from to) ≡ to - from)
unfolding passing
ones-all_between xs from to h = (
  λ all. stretch (λ y. y) xs from to true h all,
  λ e j low high.
      sym (get_or-between xs from to (j - from) false (omega arith) ∙ ap (element xs) (let s : from + (j - from) ≡ j = omega arith in s))
      ∙ (ones-all (slice_range xs from to)).1 (e ∙ sym (length-between xs from to h)) (j - from) (omega (arith, length-between xs from to h)),
)

-- Elements that were all false are made true: there are as many ones more. Those that were all true are made false: there
-- are as many fewer. The same of zeros, the other way round.
pub ones-taken : (xs : List Bool) (from to : ℕ) → from ≤ to → to ≤ length xs → AllBetween false xs from to → ones_in (with_filled xs from to true) ≡ ones_in xs + (to - from)
ones-taken xs from to h k free = omega (arith, ones-filled xs from to true h, (ones-none_between xs from to k).0 free)

pub ones-freed : (xs : List Bool) (from to : ℕ) → from ≤ to → to ≤ length xs → AllBetween true xs from to → ones_in (with_filled xs from to false) + (to - from) ≡ ones_in xs
ones-freed xs from to h k used = omega (arith, ones-filled xs from to false h, (ones-all_between xs from to k).0 used)

pub zeros-taken : (xs : List Bool) (from to : ℕ) → from ≤ to → to ≤ length xs → AllBetween false xs from to → zeros_in (with_filled xs from to true) + (to - from) ≡ zeros_in xs
zeros-taken xs from to h k free =
    let long = length-between xs from to k in
    omega (arith, zeros-filled xs from to true h, (ones-none_between xs from to k).0 free, ones-zeros (slice_range xs from to), long)

pub zeros-freed : (xs : List Bool) (from to : ℕ) → from ≤ to → to ≤ length xs → AllBetween true xs from to → zeros_in (with_filled xs from to false) ≡ zeros_in xs + (to - from)
zeros-freed xs from to h k used =
    let long = length-between xs from to k in
    omega (arith, zeros-filled xs from to false h, (ones-all_between xs from to k).0 used, ones-zeros (slice_range xs from to), long)

-- of elements in a row that are false there are at most as many as zeros
pub zeros-free : (xs : List Bool) (i count : ℕ) → AreFree xs i count → count ≤ zeros_in xs
zeros-free xs i count free = omega (arith, zeros-taken xs i (i + count) (omega arith) free.0 free.1)

-- A slice's list is tabulated, so that a search knows its length: element i of it is written, or elements i and j are
-- exchanged.
pub ones-set_in : (n : ℕ) (f : ℕ → Bool) (i : ℕ) (b : Bool) → i < n → ones_in (slice_set (tabulate n f) i b) + (if element (tabulate n f) i then 1 else 0) ≡ ones_in (tabulate n f) + (if b then 1 else 0)
ones-set_in n f i b h = let long = length-tabulate n f in ones-set (tabulate n f) i b (omega arith)

pub zeros-set_in : (n : ℕ) (f : ℕ → Bool) (i : ℕ) (b : Bool) → i < n → zeros_in (slice_set (tabulate n f) i b) + (if element (tabulate n f) i then 0 else 1) ≡ zeros_in (tabulate n f) + (if b then 0 else 1)
zeros-set_in n f i b h = let long = length-tabulate n f in zeros-set (tabulate n f) i b (omega arith)

pub ones-swap_in : (n : ℕ) (f : ℕ → Bool) (i j : ℕ) → i < n → j < n → ones_in (swap (tabulate n f) i j) ≡ ones_in (tabulate n f)
ones-swap_in n f i j h k = let long = length-tabulate n f in ones-swap (tabulate n f) i j (omega arith) (omega arith)

pub zeros-swap_in : (n : ℕ) (f : ℕ → Bool) (i j : ℕ) → i < n → j < n → zeros_in (swap (tabulate n f) i j) ≡ zeros_in (tabulate n f)
zeros-swap_in n f i j h k = let long = length-tabulate n f in zeros-swap (tabulate n f) i j (omega arith) (omega arith)

-- What a search takes for counts: `#[tactic(auto, using(bitvec_slice::proofs::OneCountLemmas::counts))]` on a function.
pub ruleset counts = (ones-zeros, ones-replicate, zeros-replicate, ones-append, zeros-append, ones-push, zeros-push, ones-insert, zeros-insert, ones-remove, zeros-remove, ones-take, zeros-take, ones-reverse, zeros-reverse, ones-set, zeros-set, ones-swap, zeros-swap, ones-filled, zeros-filled, ones-range, zeros-range, ones-or, ones-and, ones-and_not, ones-xor, ones-none, zeros-none, ones-all, zeros-all, ones-none_between, ones-all_between, ones-taken, ones-freed, zeros-taken, zeros-freed)

-- What it takes beside them where a list is turned over: beside `ones-zeros` these two go on without end, so not by default.
pub ruleset turned_counts = (ones-map_not, zeros-map_not)

-- The same with the edits of a slice at an index, `set`, `replace` and `swap`: what a caller of slices takes.
pub ruleset slice_counts = (counts, ones-set_in, zeros-set_in, ones-swap_in, zeros-swap_in)
