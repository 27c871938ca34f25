-- Where a list has the elements of another.
use Rattle.std.proofs.Common.{◌≡◌, ◌≢◌, ◌↔◌, inl, inr, ℕ, suc, ◌+◌, ◌*◌, ◌-◌, ◌<◌, ◌≤◌, ◌/◌, ◌%◌, Bool, List, [], ◌∷◌, true, false, true≢false, ◌++◌, length, take, drop, sym, ap, subst, ◌∙◌, refl, arith}
use Rattle.std.specs.Prelude.{not, slice_range, Option, None, Some, MatchOption, is_some}
use Rattle.std.proofs.lemmas.Bool.{cases_lt}
use Rattle.std.proofs.Math.Seq.{drop-cons}
use Rattle.std.proofs.lemmas.List.{length-drop, get_or-take, get_or-drop, take_all, take-append-drop}
use Rattle.std.proofs.lemmas.Nat.{div-add-mod', mod-mul-add}
use Rattle.bitvec.specs.Span.{element}
use Rattle.bitvec_slice.specs.Bits.{AreFree, AllBetween, IsFirstBetween}
use Rattle.bitvec_slice.specs.Patterns.{HasAt, AreFreeFrom, IsLeast}

-- what is free in the rest of a list is free in the list
module _ (xs : List Bool) (from : ℕ) (inside : from ≤ length xs) where
  rest_element : (j : ℕ) → from ≤ j → element (drop from xs) (j - from) ≡ element xs j
  rest_element j h = get_or-drop from xs (j - from) false ∙ ap (element xs) (let past : from + (j - from) ≡ j = omega (arith, h) in past)

  pub free_in_list : (i count : ℕ) → AreFree (drop from xs) i count → AreFree xs (from + i) count
  free_in_list i count free = (
    omega (arith, free.0, length-drop from xs),
    λ j first last. sym (rest_element j (omega arith)) ∙ free.1 (j - from) (omega arith) (omega arith),
  )

  pub free_in_rest : (i count : ℕ) → from ≤ i → AreFree xs i count → AreFree (drop from xs) (i - from) count
  free_in_rest i count behind free = (
    omega (arith, free.0, length-drop from xs),
    λ j first last. get_or-drop from xs j false ∙ free.1 (from + j) (omega arith) (omega arith),
  )

-- no multiple lies between a number that is none and the next that is one
pub no_multiple : (m at i : ℕ) → 0 < m → at % m ≢ 0 → at ≤ i → i < at + (m - at % m) → i % m ≢ 0
no_multiple m at i some other first last e =
    let q : ℕ = at / m in
    let past : ℕ = at % m + (i - at) in
    let whole : at ≡ q * m + at % m = sym (div-add-mod' at m) in
    let near : past < m = omega arith in
    let same : i ≡ q * m + past = omega (arith, whole, first) in
    let is : i % m ≡ past = ap (λ n. n % m) same ∙ mod-mul-add q m past near in
    other (omega (arith, is, e))

-- a list begins with its first element
pub first_then_rest : (xs : List Bool) → 0 < length xs → xs ≡ element xs 0 ∷ drop 1 xs
first_then_rest xs some = drop-cons xs 0 false some

-- and ends with its last
pub rest_then_last : (xs : List Bool) → 0 < length xs → xs ≡ take (length xs - 1) xs ++ (element xs (length xs - 1) ∷ [])
rest_then_last xs some =
    let n : ℕ = length xs - 1 in
    let all : suc n ≡ length xs = omega arith in
    let none : drop (suc n) xs ≡ [] = ap (λ k. drop k xs) all ∙ drop_whole xs in
    sym (take-append-drop n xs) ∙ ap (λ us. take n xs ++ us) (drop-cons xs n false (omega arith) ∙ ap (λ us. element xs n ∷ us) none)
  where
    drop_whole : (us : List Bool) → drop (length us) us ≡ []
    drop_whole [] = refl
    drop_whole (u ∷ us) = drop_whole us

-- the element where another list begins is its first
pub has_first : (xs ys : List Bool) (i : ℕ) → 0 < length ys → HasAt xs ys i → element xs i ≡ element ys 0
has_first xs ys i some has =
    let n : i + length ys - i ≡ length ys = omega arith in
    let here : element (slice_range xs i (i + length ys)) 0 ≡ element xs i =
    get_or-take (i + length ys - i) (drop i xs) 0 false (omega (arith, n)) ∙ get_or-drop i xs 0 false ∙ ap (element xs) (let at : i + 0 ≡ i = omega arith in at) in
    sym here ∙ ap (λ (us : List Bool). element us 0) has.1

-- the first run of zeros in the rest of a list is the first of the list from there on
module _ (xs rest : List Bool) (from count : ℕ) (inside : from ≤ length xs) (is : rest ≡ drop from xs) where
  rest_free : (k : ℕ) → from ≤ k → AreFree xs k count → AreFree rest (k - from) count
  rest_free k behind free = subst (λ us. AreFree us (k - from) count) (sym is) (free_in_rest xs from inside k count behind free)

  pub run_behind : (i : ℕ) → AreFree rest i count × ((k : ℕ) → k < i → ¬ AreFree rest k count)
      → (from ≤ from + i) × AreFree xs (from + i) count × ((k : ℕ) → from ≤ k → k < from + i → ¬ AreFree xs k count)
  run_behind i first = (
    omega arith,
    free_in_list xs from inside i count (subst (λ us. AreFree us i count) is first.0),
    λ k behind before free. first.1 (k - from) (omega (arith, behind, before)) (rest_free k behind free),
  )

  pub none_behind : ((i : ℕ) → ¬ AreFree rest i count) → (i : ℕ) → from ≤ i → ¬ AreFree xs i count
  none_behind none i behind free = none (i - from) (rest_free i behind free)

-- no multiple before index `from` is one from which on `count` elements are false
module _ (xs : List Bool) (start count m from : ℕ) (later : start ≤ from) (none : (k : ℕ) → k < from → ¬ AreFreeFrom xs start count m k) where
  pub no_run : ((i : ℕ) → from ≤ i → ¬ AreFree xs i count) → (k : ℕ) → ¬ AreFreeFrom xs start count m k
  no_run other k run = elim (cases_lt k from) [ inl before ↦ none k before run | inr behind ↦ other k behind run.2 ]

  pub no_room : length xs < from → (k : ℕ) → ¬ AreFreeFrom xs start count m k
  no_room past = no_run (λ i behind free. absurd (omega (arith, past, behind, free.0)))

  module _ (at : ℕ) (first : (from ≤ at) × AreFree xs at count × ((k : ℕ) → from ≤ k → k < at → ¬ AreFree xs k count)) where
    no_run_before : (k : ℕ) → k < at → ¬ AreFreeFrom xs start count m k
    no_run_before k before run = elim (cases_lt k from) [ inl early ↦ none k early run | inr behind ↦ first.2 k behind before run.2 ]

    pub run_here : at % m ≡ 0 → IsLeast (AreFreeFrom xs start count m) at
    run_here e = ((omega (arith, first.0, later), e, first.1), no_run_before)

    pub no_run_up : 0 < m → at % m ≢ 0 → (k : ℕ) → k < at + (m - at % m) → ¬ AreFreeFrom xs start count m k
    no_run_up some other k before run = elim (cases_lt k at) [ inl early ↦ no_run_before k early run | inr behind ↦ no_multiple m at k some other behind before run.1 ]

    pub no_run_past : 0 < m → at % m ≢ 0 → length xs < at + (m - at % m) → (k : ℕ) → ¬ AreFreeFrom xs start count m k
    no_run_past some other past k run = no_run_up some other k (let free = run.2 in omega (arith, past, free.0)) run

not_self : (b : Bool) → b ≡ not b → ⊥
not_self true e = true≢false e
not_self false e = true≢false (sym e)

-- the stretch of a list from element i on is another
pub part_has : (xs ys rest part : List Bool) (i count : ℕ) → count ≡ length ys → i + length ys ≤ length xs → rest ≡ drop i xs → part ≡ take count rest → (part ≡ ys) ↔ HasAt xs ys i
part_has xs ys rest part i count many inside is_rest is_part =
    let n : count ≡ i + length ys - i = omega (arith, many) in
    let same : part ≡ slice_range xs i (i + length ys) = is_part ∙ (λ m. take (n m) (is_rest m)) in
    (λ e. (inside, sym same ∙ e), λ has. same ∙ has.1)

-- a list does not begin or end with a longer one
pub too_short : (xs ys : List Bool) → length xs < length ys → ¬ (take (length ys) xs ≡ ys)
too_short xs ys short e = absurd (omega (arith, short, ap length (sym (take_all (length ys) xs (omega (arith, short))) ∙ e)))

pub too_short_end : (xs ys : List Bool) → length xs < length ys → ¬ (drop (length xs - length ys) xs ≡ ys)
too_short_end xs ys short e = absurd (omega (arith, short, length-drop (length xs - length ys) xs, ap length e))

-- before index `from` a list nowhere has the elements of another, whose first is known
module _ (xs ys : List Bool) (from : ℕ) (first : Bool) (some : 0 < length ys) (is : first ≡ element ys 0) (none : (k : ℕ) → k < from → ¬ HasAt xs ys k) where
  pub none_later : (end : ℕ) → AllBetween (not first) xs from end → (k : ℕ) → k < end → ¬ HasAt xs ys k
  none_later end lacking k before has =
      elim (cases_lt k from) [
        | inl early ↦ none k early has
        | inr behind ↦ not_self first (is ∙ sym (has_first xs ys k some has) ∙ lacking k behind before)
      ]

  pub none_is : (end : ℕ) → length xs + 1 ≤ end + length ys → AllBetween (not first) xs from end → (k : ℕ) → ¬ HasAt xs ys k
  none_is end room lacking k has = none_later end lacking k (omega (arith, room, has.0)) has

  pub has_here : (end i : ℕ) → IsFirstBetween first xs from end i → HasAt xs ys i → IsLeast (HasAt xs ys) i
  has_here end i found has = (has, none_later i found.3)

  pub none_up_to : (end i : ℕ) → IsFirstBetween first xs from end i → ¬ HasAt xs ys i → (k : ℕ) → k < i + 1 → ¬ HasAt xs ys k
  none_up_to end i found other k before has =
      elim (cases_lt k i) [
        | inl early ↦ none_later i found.3 k early has
        | inr at ↦ other (subst (λ n. HasAt xs ys n) (let same : k ≡ i = omega arith in same) has)
      ]

  pub none_past : length xs < from + length ys → (k : ℕ) → ¬ HasAt xs ys k
  none_past past k has = none k (omega (arith, past, has.0)) has

-- whether there is a least number that is so shows whether any is
pub least_shows : (P : ℕ → Type 0) (o : Option ℕ) → MatchOption o ((i : ℕ) → ¬ P i) (IsLeast P) → (is_some o ≡ false) ↔ ((i : ℕ) → ¬ P i)
least_shows P None none = (λ e. none, λ all. refl)
least_shows P (Some i) least = (λ e. absurd (true≢false e), λ all. absurd (all i least.0))
