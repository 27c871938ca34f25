-- The numbers of a range that pass a test, and the indices of a list's ones and zeros.
use Rattle.std.proofs.Common.{◌≡◌, ℕ, zero, suc, ◌+◌, ◌-◌, ◌<◌, ◌≤◌, Bool, true, false, not, List, [], ◌∷◌, ◌++◌, length, length-append, Option, Some, None, MatchOption, refl, sym, ap, ◌∙◌, inl, inr, arith}
use Rattle.std.specs.List.{filter, range_with_len}
use Rattle.std.specs.Iterator.{MakesProgress, item_count}
use Rattle.std.proofs.lemmas.Bool.{cases_eq, cases_Bool}
use Rattle.bitvec.specs.Span.{element}
use Rattle.bitvec_slice.specs.Bits.{AllBetween, IsFirstBetween, IsLastBetween, ones_between, zeros_between}

-- where none passes there is none
pub filter_none : (test : ℕ → Bool) (from n : ℕ) → ((j : ℕ) → from ≤ j → j < from + n → test j ≡ false) → filter test (range_with_len from n) ≡ []
filter_none test from zero none = refl
filter_none test from (suc n) none = rw (none from (omega arith) (omega arith)) (filter_none test (from + 1) n (λ j h k. none j (omega arith) (omega arith)))

-- the first that passes, and those behind it
pub filter_first : (test : ℕ → Bool) (from n i m : ℕ) → from ≤ i → i < from + n → test i ≡ true → ((j : ℕ) → from ≤ j → j < i → test j ≡ false) → i + 1 + m ≡ from + n
    → filter test (range_with_len from n) ≡ i ∷ filter test (range_with_len (i + 1) m)
filter_first test from zero i m h k passes none e = absurd (omega arith)
filter_first test from (suc n) i m h k passes none e =
    elim (cases_eq from i) [
      | inl here ↦ (
          let first : test from ≡ true = ap test here ∙ passes in
          let left : n ≡ m = omega arith in
          rw (first, left, here) refl)
      | inr later ↦ (rw (none from (omega arith) (omega arith)) (filter_first test (from + 1) n i m (omega arith) (omega arith) passes (λ j h k. none j (omega arith) k) (omega arith)))
    ]

-- the last that passes, and those before it
pub filter_last : (test : ℕ → Bool) (from n i m : ℕ) → from ≤ i → i < from + n → test i ≡ true → ((j : ℕ) → i + 1 ≤ j → j < from + n → test j ≡ false) → from + m ≡ i
    → filter test (range_with_len from n) ≡ filter test (range_with_len from m) ++ (i ∷ [])
filter_last test from zero i m h k passes none e = absurd (omega arith)
filter_last test from (suc n) i zero h k passes none e =
    let here : from ≡ i = omega arith in
    let first : test from ≡ true = ap test here ∙ passes in
    rw first (ap (λ x. x ∷ filter test (range_with_len (from + 1) n)) here ∙ ap (λ xs. i ∷ xs) (filter_none test (from + 1) n (λ j h k. none j (omega arith) (omega arith))))
filter_last test from (suc n) i (suc m) h k passes none e =
    let rest = filter_last test (from + 1) n i m (omega arith) (omega arith) passes (λ j h k. none j h (omega arith)) (omega arith) in
    elim (cases_Bool (test from)) [
      | inl is_on ↦ rw is_on (ap (λ xs. from ∷ xs) rest)
      | inr is_off ↦ rw is_off rest
    ]

-- the indices of ones: none, the first and those behind it, the last and those before it
pub ones_none : (xs : List Bool) (from upto : ℕ) → AllBetween false xs from upto → ones_between xs from upto ≡ []
ones_none xs from upto none = filter_none (element xs) from (upto - from) (λ j h k. none j h (omega arith))

pub ones_first : (xs : List Bool) (from upto i : ℕ) → IsFirstBetween true xs from upto i → ones_between xs from upto ≡ i ∷ ones_between xs (i + 1) upto
ones_first xs from upto i first = let h = first.0 in let k = first.1 in filter_first (element xs) from (upto - from) i (upto - (i + 1)) h (omega arith) first.2 first.3 (omega arith)

pub ones_last : (xs : List Bool) (from upto i : ℕ) → IsLastBetween true xs from upto i → ones_between xs from upto ≡ ones_between xs from i ++ (i ∷ [])
ones_last xs from upto i last = let h = last.0 in let k = last.1 in filter_last (element xs) from (upto - from) i (i - from) h (omega arith) last.2 (λ j a b. last.3 j a (omega arith)) (omega arith)

-- what is left behind the first of a list's ones, where there is one
pub ones_behind : (xs ys : List Bool) (from upto next end : ℕ) (found : Option ℕ) → ys ≡ xs → end ≡ upto
    → MatchOption found (AllBetween false xs from upto) (IsFirstBetween true xs from upto) → MatchOption found (next ≡ from) (λ i. next ≡ i + 1)
    → MatchOption found ((ones_between xs from upto ≡ []) × (ones_between ys next end ≡ [])) (λ i. ones_between xs from upto ≡ i ∷ ones_between ys next end)
ones_behind xs ys from upto next end None same ends none stays =
    let e = ones_none xs from upto none in
    (e, ap (λ zs. ones_between zs next end) same ∙ ap (λ n. ones_between xs n end) stays ∙ ap (ones_between xs from) ends ∙ e)
ones_behind xs ys from upto next end (Some i) same ends first goes =
    ones_first xs from upto i first ∙ ap (λ n. i ∷ ones_between xs n upto) (sym goes) ∙ ap (λ n. i ∷ ones_between xs next n) (sym ends)
    ∙ ap (λ zs. i ∷ ones_between zs next end) (sym same)

-- what is left before the last of them, where there is one
pub ones_before : (xs ys : List Bool) (from upto next end : ℕ) (found : Option ℕ) → ys ≡ xs → next ≡ from
    → MatchOption found (AllBetween false xs from upto) (IsLastBetween true xs from upto) → MatchOption found (end ≡ upto) (λ i. end ≡ i)
    → MatchOption found ((ones_between xs from upto ≡ []) × (ones_between ys next end ≡ [])) (λ i. ones_between xs from upto ≡ ones_between ys next end ++ (i ∷ []))
ones_before xs ys from upto next end None same stays none ends =
    let e = ones_none xs from upto none in
    (e, ap (λ zs. ones_between zs next end) same ∙ ap (λ n. ones_between xs n end) stays ∙ ap (ones_between xs from) ends ∙ e)
ones_before xs ys from upto next end (Some i) same stays last goes =
    ones_last xs from upto i last ∙ ap (λ n. ones_between xs from n ++ (i ∷ [])) (sym goes) ∙ ap (λ n. ones_between xs n end ++ (i ∷ [])) (sym stays)
    ∙ ap (λ zs. ones_between zs next end ++ (i ∷ [])) (sym same)

-- the same of the indices of zeros
pub zeros_none : (xs : List Bool) (from upto : ℕ) → AllBetween true xs from upto → zeros_between xs from upto ≡ []
zeros_none xs from upto none = filter_none (λ i. not (element xs i)) from (upto - from) (λ j h k. ap not (none j h (omega arith)))

pub zeros_first : (xs : List Bool) (from upto i : ℕ) → IsFirstBetween false xs from upto i → zeros_between xs from upto ≡ i ∷ zeros_between xs (i + 1) upto
zeros_first xs from upto i first = let h = first.0 in let k = first.1 in filter_first (λ i. not (element xs i)) from (upto - from) i (upto - (i + 1)) h (omega arith) (ap not first.2) (λ j a b. ap not (first.3 j a b)) (omega arith)

pub zeros_last : (xs : List Bool) (from upto i : ℕ) → IsLastBetween false xs from upto i → zeros_between xs from upto ≡ zeros_between xs from i ++ (i ∷ [])
zeros_last xs from upto i last = let h = last.0 in let k = last.1 in filter_last (λ i. not (element xs i)) from (upto - from) i (i - from) h (omega arith) (ap not last.2) (λ j a b. ap not (last.3 j a (omega arith))) (omega arith)

pub zeros_behind : (xs ys : List Bool) (from upto next end : ℕ) (found : Option ℕ) → ys ≡ xs → end ≡ upto
    → MatchOption found (AllBetween true xs from upto) (IsFirstBetween false xs from upto) → MatchOption found (next ≡ from) (λ i. next ≡ i + 1)
    → MatchOption found ((zeros_between xs from upto ≡ []) × (zeros_between ys next end ≡ [])) (λ i. zeros_between xs from upto ≡ i ∷ zeros_between ys next end)
zeros_behind xs ys from upto next end None same ends none stays =
    let e = zeros_none xs from upto none in
    (e, ap (λ zs. zeros_between zs next end) same ∙ ap (λ n. zeros_between xs n end) stays ∙ ap (zeros_between xs from) ends ∙ e)
zeros_behind xs ys from upto next end (Some i) same ends first goes =
    zeros_first xs from upto i first ∙ ap (λ n. i ∷ zeros_between xs n upto) (sym goes) ∙ ap (λ n. i ∷ zeros_between xs next n) (sym ends)
    ∙ ap (λ zs. i ∷ zeros_between zs next end) (sym same)

-- what is left before the last of them, where there is one
pub zeros_before : (xs ys : List Bool) (from upto next end : ℕ) (found : Option ℕ) → ys ≡ xs → next ≡ from
    → MatchOption found (AllBetween true xs from upto) (IsLastBetween false xs from upto) → MatchOption found (end ≡ upto) (λ i. end ≡ i)
    → MatchOption found ((zeros_between xs from upto ≡ []) × (zeros_between ys next end ≡ [])) (λ i. zeros_between xs from upto ≡ zeros_between ys next end ++ (i ∷ []))
zeros_before xs ys from upto next end None same stays none ends =
    let e = zeros_none xs from upto none in
    (e, ap (λ zs. zeros_between zs next end) same ∙ ap (λ n. zeros_between xs n end) stays ∙ ap (zeros_between xs from) ends ∙ e)
zeros_before xs ys from upto next end (Some i) same stays last goes =
    zeros_last xs from upto i last ∙ ap (λ n. zeros_between xs from n ++ (i ∷ [])) (sym goes) ∙ ap (λ n. zeros_between xs n end ++ (i ∷ [])) (sym stays)
    ∙ ap (λ zs. zeros_between zs next end ++ (i ∷ [])) (sym same)

-- a call that took the first or the last off a list made progress
pub progress_first : {S A : Type 0} (can : S → Type 0) (rest : S → List A) (s : S) (x : A) (t : S) → can t → rest s ≡ x ∷ rest t → MakesProgress can (item_count rest) s (Some x) t
progress_first can rest s x t h e =
    let less : length (rest t) < length (rest s) = omega (arith, ap length e) in
    record { on = λ _. (h, tt, less); keeps = h; rests = λ _. tt }

pub progress_last : {S A : Type 0} (can : S → Type 0) (rest : S → List A) (s : S) (x : A) (t : S) → can t → rest s ≡ rest t ++ (x ∷ []) → MakesProgress can (item_count rest) s (Some x) t
progress_last can rest s x t h e =
    let less : length (rest t) < length (rest s) = omega (arith, ap length e, length-append (rest t) (x ∷ [])) in
    record { on = λ _. (h, tt, less); keeps = h; rests = λ _. tt }

-- the same of a call that took the first where there is one
pub progress_behind : {S A : Type 0} (can : S → Type 0) (rest : S → List A) (s : S) (r : Option A) (t : S) → can t → MatchOption r ((rest s ≡ []) × (rest t ≡ [])) (λ x. rest s ≡ x ∷ rest t) → MakesProgress can (item_count rest) s r t
progress_behind can rest s None t h e = record { on = λ _. tt; keeps = tt; rests = λ _. tt }
progress_behind can rest s (Some x) t h e = progress_first can rest s x t h e

-- and of one that took the last
pub progress_before : {S A : Type 0} (can : S → Type 0) (rest : S → List A) (s : S) (r : Option A) (t : S) → can t → MatchOption r ((rest s ≡ []) × (rest t ≡ [])) (λ x. rest s ≡ rest t ++ (x ∷ [])) → MakesProgress can (item_count rest) s r t
progress_before can rest s None t h e = record { on = λ _. tt; keeps = tt; rests = λ _. tt }
progress_before can rest s (Some x) t h e = progress_last can rest s x t h e
