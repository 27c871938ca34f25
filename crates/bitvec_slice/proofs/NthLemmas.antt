-- The pieces of a list's rest and of its front, and what a call takes that passes over some pieces.
use Rattle.std.proofs.Common.{◌≡◌, ℕ, zero, suc, ◌+◌, ◌-◌, ◌*◌, ◌<◌, ◌≤◌, Bool, List, [], ◌∷◌, ◌++◌, length, take, drop, length-append, length-take-le, length-drop, Option, Some, None, MatchOption, refl, sym, ap, ◌∙◌, inl, inr, arith}
use Rattle.std.specs.List.{slice_get}
use Rattle.std.proofs.Math.Seq.{drop-nil}
use Rattle.std.proofs.lemmas.Bool.{cases_lt}
use Rattle.std.proofs.lemmas.List.{drop-drop, drop-take, take-take, take_all, take-append-le, take-append-drop, length-take, nil_from_length}
use Rattle.bitvec.specs.Memory.{tabulate}
use Rattle.bitvec_slice.specs.Pieces.{windows_of, chunks_of, rchunks_of}
use Rattle.bitvec_slice.proofs.PieceLemmas.{windows_first, windows_last, chunks_first, rchunks_first, length-chunks_of, length-rchunks_of}

-- the element behind the first n, and the element behind a list's front
get_behind : {A : Type 0} (n : ℕ) (xs : List A) → slice_get (drop n xs) 0 ≡ slice_get xs n
get_behind zero xs = refl
get_behind (suc n) [] = refl
get_behind (suc n) (x ∷ xs) = get_behind n xs

get_at_end : {A : Type 0} (front : List A) (x : A) (back : List A) → slice_get ((front ++ (x ∷ [])) ++ back) (length front) ≡ Some x
get_at_end [] x back = refl
get_at_end (y ∷ front) x back = get_at_end front x back

take_to_end : {A : Type 0} (front : List A) (x : A) (back : List A) → take (length front) ((front ++ (x ∷ [])) ++ back) ≡ front
take_to_end [] x back = refl
take_to_end (y ∷ front) x back = ap (λ l. y ∷ l) (take_to_end front x back)

-- A call that takes the first of what lies behind n pieces, or none: what it takes, and what is left.
module _ {A B : Type 0} (view : A → B) (n : ℕ) (all mid after : List B) (is_mid : mid ≡ drop n all) where
  pub nth_item : (taken : Option A) → MatchOption taken ((mid ≡ []) × (after ≡ [])) (λ x. mid ≡ view x ∷ after) → MatchOption taken (length all ≤ n) (λ x. slice_get all n ≡ Some (view x))
  nth_item None h = omega (arith, ap length is_mid, ap length h.0, length-drop n all)
  nth_item (Some x) h = sym (get_behind n all) ∙ ap (λ l. slice_get l 0) (sym is_mid ∙ h)

  pub nth_left : (taken : Option A) → MatchOption taken ((mid ≡ []) × (after ≡ [])) (λ x. mid ≡ view x ∷ after) → after ≡ drop (n + 1) all
  nth_left None h = h.1 ∙ sym (sym (drop-drop 1 n all) ∙ ap (drop 1) (sym is_mid ∙ h.0))
  nth_left (Some x) h = sym (sym (drop-drop 1 n all) ∙ ap (drop 1) (sym is_mid ∙ h))

-- A call that takes the last of what lies before n pieces, or none: what it takes, and what is left.
module _ {A B : Type 0} (view : A → B) (n : ℕ) (all mid after : List B) (is_mid : mid ≡ take (length all - n) all) where
  mid_long : length mid ≡ length all - n
  mid_long = ap length is_mid ∙ length-take-le (length all - n) all (omega arith)

  at_end : (x : A) → mid ≡ after ++ (view x ∷ []) → length all - (n + 1) ≡ length after
  at_end x h = omega (arith, mid_long, ap length h, length-append after (view x ∷ []))

  parts : (x : A) → mid ≡ after ++ (view x ∷ []) → all ≡ (after ++ (view x ∷ [])) ++ drop (length all - n) all
  parts x h = sym (take-append-drop (length all - n) all) ∙ ap (λ l. l ++ drop (length all - n) all) (sym is_mid ∙ h)

  pub nth_back_item : (taken : Option A) → MatchOption taken ((mid ≡ []) × (after ≡ [])) (λ x. mid ≡ after ++ (view x ∷ [])) → MatchOption taken (length all ≤ n) (λ x. slice_get all (length all - (n + 1)) ≡ Some (view x))
  nth_back_item None h = omega (arith, mid_long, ap length h.0)
  nth_back_item (Some x) h = ap (slice_get all) (at_end x h) ∙ ap (λ l. slice_get l (length after)) (parts x h) ∙ get_at_end after (view x) (drop (length all - n) all)

  pub nth_back_left : (taken : Option A) → MatchOption taken ((mid ≡ []) × (after ≡ [])) (λ x. mid ≡ after ++ (view x ∷ [])) → after ≡ take (length all - (n + 1)) all
  nth_back_left None h =
      let none : length all - (n + 1) ≡ 0 = omega (arith, mid_long, ap length h.0) in
      h.1 ∙ sym (ap (λ m. take m all) none)
  nth_back_left (Some x) h = sym (ap (λ m. take m all) (at_end x h) ∙ ap (take (length after)) (parts x h) ∙ take_to_end after (view x) (drop (length all - n) all))

-- the windows of a list's rest, and of its front
no_windows : (n : ℕ) (xs : List Bool) → length xs < n → windows_of n xs ≡ []
no_windows n xs short =
    let none : length xs + 1 - n ≡ 0 = omega arith in
    ap (λ m. tabulate m (λ k. take n (drop k xs))) none

pub windows_drop : (n k : ℕ) (xs : List Bool) → 0 < n → windows_of n (drop k xs) ≡ drop k (windows_of n xs)
windows_drop n zero xs some = refl
windows_drop n (suc k) xs some =
    elim (cases_lt (length xs) n) [
      | inl short ↦ no_windows n (drop (suc k) xs) (omega (arith, length-drop (suc k) xs)) ∙ sym (ap (drop (suc k)) (no_windows n xs short) ∙ drop-nil (suc k))
      | inr room ↦ (
          let step : 1 + k ≡ suc k = omega arith in
          sym (ap (windows_of n) (drop-drop k 1 xs ∙ ap (λ m. drop m xs) step))
          ∙ windows_drop n k (drop 1 xs) some
          ∙ sym (ap (drop (suc k)) (windows_first n xs (take n xs) (drop 1 xs) some room refl refl)))
    ]

pub windows_take : (n k : ℕ) (xs : List Bool) → 0 < n → windows_of n (take (length xs - k) xs) ≡ take (length (windows_of n xs) - k) (windows_of n xs)
windows_take n zero xs some = ap (windows_of n) (take_all (length xs - 0) xs (omega arith)) ∙ sym (take_all (length (windows_of n xs) - 0) (windows_of n xs) (omega arith))
windows_take n (suc k) xs some =
    elim (cases_lt (length xs) n) [
      | inl short ↦ (
          let none = no_windows n xs short in
          let count : length (windows_of n xs) - suc k ≡ 0 = omega (arith, ap length none) in
          no_windows n (take (length xs - suc k) xs) (omega (arith, length-take-le (length xs - suc k) xs (omega arith)))
          ∙ sym (ap (λ m. take m (windows_of n xs)) count))
      | inr room ↦ (
          let rest : List Bool = take (length xs - 1) xs in
          let last : List Bool = drop (length xs - n) xs in
          let before : List (List Bool) = windows_of n rest in
          let long : length rest ≡ length xs - 1 = length-take-le (length xs - 1) xs (omega arith) in
          let all = windows_last n xs last rest some room refl refl in
          let count : length (windows_of n xs) - suc k ≡ length before - k = omega (arith, ap length all, length-append before (last ∷ [])) in
          let cut : length rest - k ≡ length xs - suc k = omega (arith, long) in
          sym (ap (windows_of n) (ap (λ m. take m rest) cut ∙ take-take (length xs - suc k) (length xs - 1) xs (omega arith)))
          ∙ windows_take n k rest some
          ∙ sym (ap (λ m. take m (windows_of n xs)) count ∙ ap (take (length before - k)) all ∙ take-append-le (length before - k) before (last ∷ []) (omega arith)))
    ]

-- the pieces of a list's rest, and of its front, by pieces from the front on
no_chunks : (n : ℕ) (xs : List Bool) → length xs ≤ 0 → chunks_of n xs ≡ []
no_chunks n xs none = nil_from_length (chunks_of n xs) (omega (arith, none, length-chunks_of n xs))

pub chunks_drop : (n k : ℕ) (xs : List Bool) → 0 < n → chunks_of n (drop (k * n) xs) ≡ drop k (chunks_of n xs)
chunks_drop n zero xs some = ap (λ m. chunks_of n (drop m xs)) (let start : 0 * n ≡ 0 = omega arith in start)
chunks_drop n (suc k) xs some =
    elim (cases_lt 0 (length xs)) [
      | inr none ↦ no_chunks n (drop (suc k * n) xs) (omega (arith, none, length-drop (suc k * n) xs)) ∙ sym (ap (drop (suc k)) (no_chunks n xs none) ∙ drop-nil (suc k))
      | inl more ↦ (
          let step : n + k * n ≡ suc k * n = omega arith in
          sym (ap (chunks_of n) (drop-drop (k * n) n xs ∙ ap (λ m. drop m xs) step))
          ∙ chunks_drop n k (drop n xs) some
          ∙ sym (ap (drop (suc k)) (chunks_first n xs (take n xs) (drop n xs) some more refl refl)))
    ]

pub chunks_take : (n k : ℕ) (xs : List Bool) → 0 < n → chunks_of n (take (k * n) xs) ≡ take k (chunks_of n xs)
chunks_take n zero xs some = no_chunks n (take (0 * n) xs) (omega (arith, length-take (0 * n) xs))
chunks_take n (suc k) xs some =
    elim (cases_lt 0 (length xs)) [
      | inr none ↦ no_chunks n (take (suc k * n) xs) (omega (arith, none, length-take (suc k * n) xs)) ∙ sym (ap (take (suc k)) (no_chunks n xs none))
      | inl more ↦ (
          let front : List Bool = take (suc k * n) xs in
          let step : suc k * n ≡ n + k * n = omega arith in
          let long : 0 < length (take (suc k * n) xs) = omega (arith, more, some, step, length-take (suc k * n) xs) in
          let first = take-take n (suc k * n) xs (omega (arith, step)) in
          let rest = ap (λ m. drop n (take m xs)) step ∙ drop-take n (k * n) xs in
          chunks_first n front (take n xs) (take (k * n) (drop n xs)) some long (sym first) (sym rest)
          ∙ ap (λ l. take n xs ∷ l) (chunks_take n k (drop n xs) some)
          ∙ sym (ap (take (suc k)) (chunks_first n xs (take n xs) (drop n xs) some more refl refl)))
    ]

-- the same by pieces from the back on
no_rchunks : (n : ℕ) (xs : List Bool) → length xs ≤ 0 → rchunks_of n xs ≡ []
no_rchunks n xs none = nil_from_length (rchunks_of n xs) (omega (arith, none, length-rchunks_of n xs))

pub rchunks_take : (n k : ℕ) (xs : List Bool) → 0 < n → rchunks_of n (take (length xs - k * n) xs) ≡ drop k (rchunks_of n xs)
rchunks_take n zero xs some = ap (rchunks_of n) (take_all (length xs - 0 * n) xs (omega arith))
rchunks_take n (suc k) xs some =
    elim (cases_lt 0 (length xs)) [
      | inr none ↦ no_rchunks n (take (length xs - suc k * n) xs) (omega (arith, none, length-take (length xs - suc k * n) xs)) ∙ sym (ap (drop (suc k)) (no_rchunks n xs none) ∙ drop-nil (suc k))
      | inl more ↦ (
          let rest : List Bool = take (length xs - n) xs in
          let long : length (take (length xs - n) xs) ≡ length xs - n = length-take-le (length xs - n) xs (omega arith) in
          let cut : length (take (length xs - n) xs) - k * n ≡ length xs - suc k * n = omega (arith, long) in
          sym (ap (rchunks_of n) (ap (λ m. take m rest) cut ∙ take-take (length xs - suc k * n) (length xs - n) xs (omega arith)))
          ∙ rchunks_take n k rest some
          ∙ sym (ap (drop (suc k)) (rchunks_first n xs (drop (length xs - n) xs) rest some more refl refl)))
    ]

pub rchunks_drop : (n k : ℕ) (xs : List Bool) → 0 < n → rchunks_of n (drop (length xs - k * n) xs) ≡ take k (rchunks_of n xs)
rchunks_drop n zero xs some = no_rchunks n (drop (length xs - 0 * n) xs) (omega (arith, length-drop (length xs - 0 * n) xs))
rchunks_drop n (suc k) xs some =
    elim (cases_lt 0 (length xs)) [
      | inr none ↦ no_rchunks n (drop (length xs - suc k * n) xs) (omega (arith, none, length-drop (length xs - suc k * n) xs)) ∙ sym (ap (take (suc k)) (no_rchunks n xs none))
      | inl more ↦ (
          let cut : ℕ = length xs - suc k * n in
          let back : List Bool = drop (length xs - suc k * n) xs in
          let rest : List Bool = take (length xs - n) xs in
          let step : suc k * n ≡ n + k * n = omega arith in
          let back_long : length (drop (length xs - suc k * n) xs) ≡ length xs - (length xs - suc k * n) = length-drop (length xs - suc k * n) xs in
          let rest_long : length (take (length xs - n) xs) ≡ length xs - n = length-take-le (length xs - n) xs (omega arith) in
          let place : cut + (length back - n) ≡ length xs - n = omega (arith, back_long, step) in
          let start : length rest - k * n ≡ cut = omega (arith, rest_long, step) in
          let first = drop-drop (length back - n) cut xs ∙ ap (λ m. drop m xs) place in
          let behind = ap (λ m. drop m rest) start ∙ ap (λ m. drop cut (take m xs)) (sym place) ∙ drop-take cut (length back - n) xs in
          rchunks_first n back (drop (length xs - n) xs) (drop (length rest - k * n) rest) some (omega (arith, back_long, step, more, some)) (sym first) behind
          ∙ ap (λ l. drop (length xs - n) xs ∷ l) (rchunks_drop n k rest some)
          ∙ sym (ap (take (suc k)) (rchunks_first n xs (drop (length xs - n) xs) rest some more refl refl)))
    ]
