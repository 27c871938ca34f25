-- The stretches of true elements in a list.
use Rattle.std.proofs.Common.{◌≡◌, ℕ, zero, suc, ◌+◌, ◌-◌, ◌<◌, ◌≤◌, ◌&&◌, Bool, true, false, true≢false, not, List, [], ◌∷◌, map, length, drop, refl, sym, ap, ◌∙◌, inl, inr, arith, get_or-drop}
use Rattle.std.specs.List.{filter, prefix_len, range_with_len}
use Rattle.std.proofs.lemmas.Bool.{cases_eq}
use Rattle.bitvec.specs.Span.{element}
use Rattle.bitvec_slice.specs.Bits.{AllBetween, IsFirstBetween}
use Rattle.bitvec_slice.specs.Stretches.{begins_run, run_len, runs_from}
use Rattle.bitvec_slice.proofs.OnesLemmas.{filter_none, filter_first}

-- those before the first number that may pass are left out
filter_skip : (test : ℕ → Bool) (from n mid m : ℕ) → from ≤ mid → from + n ≡ mid + m → ((j : ℕ) → from ≤ j → j < mid → test j ≡ false)
    → filter test (range_with_len from n) ≡ filter test (range_with_len mid m)
filter_skip test from zero mid m h e none = let left : zero ≡ m = omega arith in ap (λ k. filter test (range_with_len mid k)) left
filter_skip test from (suc n) mid m h e none =
    elim (cases_eq from mid) [
      | inl here ↦ (let left : suc n ≡ m = omega arith in ap (λ k. filter test (range_with_len k (suc n))) here ∙ ap (λ k. filter test (range_with_len mid k)) left)
      | inr before ↦ (rw (none from (omega arith) (omega arith)) (filter_skip test (from + 1) n mid m (omega arith) (omega arith) (λ j a b. none j (omega arith) b)))
    ]

-- how many elements a list begins with that are true
prefix_is : (xs : List Bool) (n : ℕ) → ((j : ℕ) → j < n → element xs j ≡ true) → element xs n ≡ false → prefix_len (λ x. x) xs ≡ n
prefix_is [] zero on off = refl
prefix_is [] (suc n) on off = absurd (true≢false (sym (on 0 (omega arith))))
prefix_is (x ∷ xs) zero on off = rw off refl
prefix_is (x ∷ xs) (suc n) on off =
    rw (on 0 (omega arith)) (omega (arith, prefix_is xs n (λ j h. on (suc j) (omega arith)) off))

-- no stretch goes on past this index: it is the first, or no true element is there
abbrev pub IsEdge : List Bool → ℕ → Type 0
IsEdge xs at = 0 < at → element xs at ≡ false

begins_here : (xs : List Bool) (from upto i : ℕ) → IsEdge xs from → IsFirstBetween true xs from upto i → begins_run xs i ≡ true
begins_here xs from upto zero edge first = first.2
begins_here xs from upto (suc i) edge first =
    elim (cases_eq from (suc i)) [
      | inl here ↦ absurd (true≢false (sym first.2 ∙ ap (element xs) (sym here) ∙ edge (omega arith)))
      | inr later ↦ (let from_below = first.0 in rw (first.2, first.3 i (omega arith) (omega arith)) refl)
    ]

begins_not : (xs : List Bool) (i : ℕ) → element xs i ≡ false → begins_run xs i ≡ false
begins_not xs zero off = off
begins_not xs (suc i) off = rw off refl

not_both : (b : Bool) → (b && not true) ≡ false
not_both true = refl
not_both false = refl

goes_on : (xs : List Bool) (j : ℕ) → 0 < j → element xs (j - 1) ≡ true → begins_run xs j ≡ false
goes_on xs zero some on = absurd (omega (arith, some))
goes_on xs (suc i) some on =
    let one_before : element xs i ≡ true = ap (element xs) (let e : i ≡ suc i - 1 = omega arith in e) ∙ on in
    rw one_before (not_both (element xs (suc i)))

-- none is left where none is true
pub runs_none : (xs : List Bool) (from : ℕ) → AllBetween false xs from (length xs) → runs_from xs from ≡ []
runs_none xs from none = ap (map (λ i. (i, run_len xs i))) (filter_none (begins_run xs) from (length xs - from) (λ j h k. begins_not xs j (none j h (omega arith))))

-- the first stretch from an edge on, and those behind it
pub runs_first : (xs : List Bool) (from start end : ℕ) → IsEdge xs from → IsFirstBetween true xs from (length xs) start → start < end → end ≤ length xs
    → AllBetween true xs start end → element xs end ≡ false → runs_from xs from ≡ (start, end - start) ∷ runs_from xs end
runs_first xs from start end edge first some within on off =
    let h = first.0 in
    let k = first.1 in
    let cut = filter_first (begins_run xs) from (length xs - from) start (length xs - (start + 1)) h (omega arith) (begins_here xs from (length xs) start edge first) (λ j a b. begins_not xs j (first.3 j a b)) (omega arith) in
    let rest = filter_skip (begins_run xs) (start + 1) (length xs - (start + 1)) end (length xs - end) (omega arith) (omega arith) (λ j a b. goes_on xs j (omega arith) (on (j - 1) (omega arith) (omega arith))) in
    let long = prefix_is (drop start xs) (end - start) (λ j a. get_or-drop start xs j false ∙ on (start + j) (omega arith) (omega arith))
    (get_or-drop start xs (end - start) false ∙ ap (element xs) (let e : start + (end - start) ≡ end = omega arith in e) ∙ off) in
    ap (map (λ i. (i, run_len xs i))) (cut ∙ ap (λ l. start ∷ l) rest) ∙ ap (λ n. (start, n) ∷ runs_from xs end) long
