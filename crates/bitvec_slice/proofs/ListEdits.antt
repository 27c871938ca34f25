-- Edits of lists of truth values, one after the other.
use Rattle.std.proofs.Common.{◌≡◌, ◌≢◌, ℕ, ◌+◌, ◌-◌, ◌<◌, ◌≤◌, ◌⊎◌, Bool, false, List, [], ◌++◌, length, take, drop, replicate, sym, subst, ap, ◌∙◌, refl, inl, inr, arith, length-append}
use Rattle.std.specs.Prelude.{slice_set, reverse}
use Rattle.std.specs.List.{swap}
use Rattle.std.proofs.lemmas.Bool.{cases_eq, cases_lt}
use Rattle.std.proofs.lemmas.List.{ext_get_or, get_or-reverse, get_or-set_same, get_or-set_other, length-reverse, length-set, length-drop, length-take-le, reverse-append, reverse-reverse, take_at, drop_at, take_all, append-nil, nil_from_length}
use Rattle.std.proofs.lemmas.List.Edits.{swap_is}
use Rattle.bitvec.specs.Memory.{list_with_copy}
use Rattle.bitvec.specs.Span.{element}

-- the elements of a list after two are exchanged
module _ (xs : List Bool) (i j : ℕ) (h : i < length xs) (k : j < length xs) (apart : i ≢ j) where
  element_first : element (swap xs i j) i ≡ element xs j
  element_first =
      ap (λ ys. element ys i) (sym (swap_is xs i j false h k))
      ∙ get_or-set_other (slice_set xs i (element xs j)) j i (element xs i) false apart
      ∙ get_or-set_same xs i (element xs j) false h

  element_second : element (swap xs i j) j ≡ element xs i
  element_second =
      ap (λ ys. element ys j) (sym (swap_is xs i j false h k))
      ∙ get_or-set_same (slice_set xs i (element xs j)) j (element xs i) false (omega (arith, length-set xs i (element xs j)))

  element_other : (n : ℕ) → n ≢ i → n ≢ j → element (swap xs i j) n ≡ element xs n
  element_other n not_i not_j =
      ap (λ ys. element ys n) (sym (swap_is xs i j false h k))
      ∙ get_or-set_other (slice_set xs i (element xs j)) j n (element xs i) false not_j
      ∙ get_or-set_other xs i n (element xs j) false not_i

  length_swap : length (swap xs i j) ≡ length xs
  length_swap = ap length (sym (swap_is xs i j false h k)) ∙ length-set (slice_set xs i (element xs j)) j (element xs i) ∙ length-set xs i (element xs j)

-- `xs` is `old` with its first i elements and its last i in the opposite order
pub record IsTurned (old xs : List Bool) (i : ℕ) : Type 0 where
  pub long : length xs ≡ length old
  pub ends : (n : ℕ) → n < length old → (n < i) ⊎ (length old ≤ n + i) → element xs n ≡ element old (length old - 1 - n)
  pub middle : (n : ℕ) → i ≤ n → n + i < length old → element xs n ≡ element old n

pub turned_none : (xs : List Bool) → IsTurned xs xs 0
turned_none xs = record {
  long = refl;
  ends = λ n h at_end. elim at_end [ inl first ↦ absurd (omega arith) | inr last ↦ absurd (omega arith) ];
  middle = λ n from inside. refl;
}

pub turned_more : (old xs ys : List Bool) (i j : ℕ) → i + i + 2 ≤ length old → j ≡ length old - 1 - i → IsTurned old xs i → ys ≡ swap xs i j → IsTurned old ys (i + 1)
turned_more old xs ys i j room mirror turned is =
    let long = turned.long in
    let h : i < length xs = omega arith in
    let k : j < length xs = omega arith in
    let apart : i ≢ j = λ e. omega arith in
    subst (λ (us : List Bool). IsTurned old us (i + 1)) (sym is) record {
      long = length_swap xs i j h k apart ∙ long;
      ends = λ n inside at_end. elim (cases_eq n i) [
        | inl first ↦ rw first (element_first xs i j h k apart ∙ turned.middle j (omega arith) (omega arith) ∙ ap (element old) mirror)
        | inr not_i ↦ elim (cases_eq n j) [
          | inl second ↦ rw second (element_second xs i j h k apart ∙ turned.middle i (omega arith) (omega arith) ∙ ap (element old) (let e : i ≡ length old - 1 - j = omega arith in e))
          | inr not_j ↦ (
              element_other xs i j h k apart n not_i not_j
              ∙ turned.ends n inside (elim at_end [
                | inl first ↦ inl (omega (arith, first, not_i))
                | inr last ↦ inr (omega (arith, last, not_j))
              ]))
        ]
      ];
      middle = λ n from inside. element_other xs i j h k apart n (λ e. omega (arith, e)) (λ e. omega (arith, e)) ∙ turned.middle n (omega arith) (omega arith);
    }

-- once all but at most one element in the middle are turned, the list is
pub turned_all : (old xs : List Bool) (i : ℕ) → length old ≤ i + i + 1 → IsTurned old xs i → xs ≡ reverse old
turned_all old xs i most turned =
    let long = turned.long in
    ext_get_or false xs (reverse old) (long ∙ sym (length-reverse old)) (λ n h.
    let inside : n < length old = omega arith in
    elim (cases_lt n i) [
      | inl first ↦ turned.ends n inside (inl first) ∙ sym (get_or-reverse old n false inside)
      | inr from ↦ elim (cases_lt (n + i) (length old)) [
        | inl middle ↦ turned.middle n from middle ∙ ap (element old) (let e : n ≡ length old - 1 - n = omega arith in e) ∙ sym (get_or-reverse old n false inside)
        | inr last ↦ turned.ends n inside (inr last) ∙ sym (get_or-reverse old n false inside)
      ]
    ])

-- what lies past the end of a list
drop_past : (n : ℕ) (xs : List Bool) → length xs ≤ n → drop n xs ≡ []
drop_past n xs h = nil_from_length (drop n xs) (omega (arith, length-drop n xs))

-- the first elements are put in the opposite order, then the others, then all
pub rotated : (n by : ℕ) (xs ys zs ws : List Bool) → length xs ≡ n → by ≤ n
    → ys ≡ take 0 xs ++ reverse (take (by - 0) (drop 0 xs)) ++ drop by xs
    → zs ≡ take by ys ++ reverse (take (n - by) (drop by ys)) ++ drop n ys
    → ws ≡ reverse zs → ws ≡ drop by xs ++ take by xs
rotated n by xs ys zs ws long h first second third =
    let a : List Bool = take by xs in
    let b : List Bool = drop by xs in
    let long_a : length (reverse a) ≡ by = length-reverse a ∙ length-take-le by xs (omega arith) in
    let long_b : length b ≡ n - by = length-drop by xs ∙ ap (λ m. m - by) long in
    let all : by - 0 ≡ by = omega arith in
    let ys_is : ys ≡ reverse a ++ b = first ∙ ap (λ m. reverse (take m xs) ++ b) all in
    let long_ys : length ys ≡ n = ap length ys_is ∙ length-append (reverse a) b ∙ omega (arith, long_a, long_b) in
    let front : take by ys ≡ reverse a = ap (take by) ys_is ∙ take_at (reverse a) b by long_a in
    let back : take (n - by) (drop by ys) ≡ b = ap (λ us. take (n - by) (drop by us)) ys_is ∙ ap (take (n - by)) (drop_at (reverse a) b by long_a) ∙ take_all (n - by) b (omega (arith, long_b)) in
    let none : drop n ys ≡ [] = drop_past n ys (omega (arith, long_ys)) in
    let zs_is : zs ≡ reverse a ++ reverse b =
    second ∙ ap (λ us. us ++ reverse (take (n - by) (drop by ys)) ++ drop n ys) front ∙ ap (λ us. reverse a ++ reverse us ++ drop n ys) back ∙ ap (λ us. reverse a ++ reverse b ++ us) none ∙ append-nil (reverse a ++ reverse b) in
    third ∙ ap reverse zs_is ∙ reverse-append (reverse a) (reverse b) ∙ ap (λ us. us ++ reverse (reverse a)) (reverse-reverse b) ∙ ap (λ us. b ++ us) (reverse-reverse a)

-- the elements from number `by` on are moved to the front, and false is put behind them
pub shifted_left : (n by : ℕ) (xs ys zs : List Bool) → length xs ≡ n → by ≤ n
    → ys ≡ list_with_copy xs by xs 0 (n - by)
    → zs ≡ take (n - by) ys ++ replicate (n - (n - by)) false ++ drop n ys
    → zs ≡ drop by xs ++ replicate by false
shifted_left n by xs ys zs long h moved filled =
    let b : List Bool = drop by xs in
    let rest : List Bool = drop (0 + (n - by)) xs in
    let long_b : length b ≡ n - by = length-drop by xs ∙ ap (λ m. m - by) long in
    let long_rest : length rest ≡ by = length-drop (0 + (n - by)) xs ∙ omega (arith, long) in
    let ys_is : ys ≡ b ++ rest = moved ∙ ap (λ us. us ++ rest) (take_all (n - by) b (omega (arith, long_b))) in
    let long_ys : length ys ≡ n = ap length ys_is ∙ length-append b rest ∙ omega (arith, long_b, long_rest) in
    let front : take (n - by) ys ≡ b = ap (take (n - by)) ys_is ∙ take_at b rest (n - by) long_b in
    let none : drop n ys ≡ [] = drop_past n ys (omega (arith, long_ys)) in
    let many : n - (n - by) ≡ by = omega arith in
    filled ∙ ap (λ us. us ++ replicate (n - (n - by)) false ++ drop n ys) front ∙ ap (λ m. b ++ replicate m false ++ drop n ys) many ∙ ap (λ us. b ++ replicate by false ++ us) none ∙ append-nil (b ++ replicate by false)

-- the first elements are moved to from number `by` on, and false is put before them
pub shifted_right : (n by : ℕ) (xs ys zs : List Bool) → length xs ≡ n → by ≤ n
    → ys ≡ list_with_copy xs 0 xs by (n - by)
    → zs ≡ take 0 ys ++ replicate (by - 0) false ++ drop by ys
    → zs ≡ replicate by false ++ take (length xs - by) xs
shifted_right n by xs ys zs long h moved filled =
    let a : List Bool = take by xs in
    let b : List Bool = take (n - by) xs in
    let long_a : length a ≡ by = length-take-le by xs (omega arith) in
    let none : drop (by + (n - by)) xs ≡ [] = drop_past (by + (n - by)) xs (omega arith) in
    let ys_is : ys ≡ a ++ b = moved ∙ ap (λ us. a ++ b ++ us) none ∙ append-nil (a ++ b) in
    let back : drop by ys ≡ b = ap (drop by) ys_is ∙ drop_at a b by long_a in
    let all : by - 0 ≡ by = omega arith in
    filled ∙ ap (λ m. replicate m false ++ drop by ys) all ∙ ap (λ us. replicate by false ++ us) back ∙ ap (λ m. replicate by false ++ take (m - by) xs) (sym long)
