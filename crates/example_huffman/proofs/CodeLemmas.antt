-- Where the codes of each length lie, and which symbol has which.
use Rattle.std.proofs.Common.{◌≡◌, ℕ, zero, suc, ◌+◌, ◌-◌, ◌*◌, ◌^◌, ◌<◌, ◌≤◌, ◌==◌, Bool, true, cond, List, length, take, drop, get_or, refl, sym, ap, subst, ◌∙◌, inl, inr, add-one, arith}
use Rattle.std.specs.List.{All, count_by}
use Rattle.std.proofs.lemmas.Bool.{cases_eq, cases_lt, cases_order, eq-eqb, ne_eqb}
use Rattle.std.proofs.lemmas.Grind.{common_steps}
use Rattle.std.proofs.lemmas.List.{get_or_past, length-take-le, take-append-le, take-append-drop, take_all}
use Rattle.std.proofs.lemmas.List.Elements.{All-get_or}
use Rattle.std.proofs.lemmas.List.Sums.{count_by_more_yes, count_by_more_no, sum_by-take-le}
use Rattle.std.proofs.Math.Nat.{pow-suc}
use Rattle.example_huffman.specs.Codes.{codes_of, first_code, behind_codes, IsComplete, HasCode, code_of}
use Rattle.example_huffman.specs.Laws.{AreBeginnings, BeginsWithCode, OneSymbol, SomeSymbol}

-- the first code of each length is twice what follows the last of the length before
pub next_first : (lengths : List ℕ) (k : ℕ) → first_code lengths (k + 1) ≡ 2 * behind_codes lengths k
unfolding first_code
next_first lengths k = ap (first_code lengths) (add-one k)

pub no_first : (lengths : List ℕ) → first_code lengths 0 ≡ 0
unfolding first_code
no_first lengths = refl

twice : (k : ℕ) → 2 ^ (k + 1) ≡ 2 * 2 ^ k
twice k = ap (λ n. 2 ^ n) (add-one k) ∙ pow-suc 2 k ∙ omega arith

-- what follows the codes of a length is no more than what follows those of a greater
rises : (lengths : List ℕ) (d k m : ℕ) → d + k ≡ m → behind_codes lengths k ≤ behind_codes lengths m
rises lengths zero k m e = subst (λ n. behind_codes lengths k ≤ behind_codes lengths n) (let same : k ≡ m = omega (arith, e) in same) (omega arith)
rises lengths (suc d) k m e = omega (arith, rises lengths d (k + 1) m (omega (arith, e)), next_first lengths k)

pub rises_to : (lengths : List ℕ) (k m : ℕ) → k ≤ m → behind_codes lengths k ≤ behind_codes lengths m
rises_to lengths k m h = rises lengths (m - k) k m (omega (arith, h))

-- codes have no more digits than bits
within_by : (lengths : List ℕ) (d k : ℕ) → d + k ≡ 14 → behind_codes lengths 14 ≤ 2 ^ 15 → behind_codes lengths k ≤ 2 ^ (k + 1)
within_by lengths zero k e h = subst (λ n. behind_codes lengths n ≤ 2 ^ (n + 1)) (let same : 14 ≡ k = omega (arith, e) in same) h
within_by lengths (suc d) k e h =
    let more = within_by lengths d (k + 1) (omega (arith, e)) h in
    omega (arith, more, twice (k + 1), next_first lengths k)

pub within : (lengths : List ℕ) (k : ℕ) → k ≤ 14 → behind_codes lengths 14 ≤ 2 ^ 15 → behind_codes lengths k ≤ 2 ^ (k + 1)
within lengths k h few = within_by lengths (14 - k) k (omega (arith, h)) few

-- a symbol that has a code is one of those whose lengths are known
pub known : (xs : List ℕ) (s : ℕ) → 0 < get_or xs s 0 → s < length xs
known xs s h = elim (cases_lt s (length xs)) [
  | inl inside ↦ inside
  | inr past ↦ absurd (omega (arith, h, get_or_past xs s 0 past))
]

-- one more symbol is one code more of its length, and none of another
pub codes_yes : (xs : List ℕ) (i len : ℕ) → i < length xs → get_or xs i 0 ≡ len → codes_of (take (i + 1) xs) len ≡ codes_of (take i xs) len + 1
codes_yes xs i len h e = count_by_more_yes (λ n. n == len) xs i 0 h (eq-eqb (get_or xs i 0) len e)

pub codes_no : (xs : List ℕ) (i len : ℕ) → i < length xs → (get_or xs i 0 ≡ len → ⊥) → codes_of (take (i + 1) xs) len ≡ codes_of (take i xs) len
codes_no xs i len h e = count_by_more_no (λ n. n == len) xs i 0 h (ne_eqb (get_or xs i 0) len e)

codes_all : (xs : List ℕ) (len : ℕ) → codes_of (take (length xs) xs) len ≡ codes_of xs len
codes_all xs len = ap (λ us. codes_of us len) (take_all (length xs) xs (omega arith))

-- of more symbols there are no fewer
codes_rise : (xs : List ℕ) (len s t : ℕ) → s ≤ t → t ≤ length xs → codes_of (take s xs) len ≤ codes_of (take t xs) len
codes_rise xs len s t h k =
    let long = length-take-le t xs k in
    let inside : s ≤ length (take t xs) = omega (arith, h, long) in
    let same : take s (take t xs) ≡ take s xs = sym (take-append-le s (take t xs) (drop t xs) inside) ∙ ap (take s) (take-append-drop t xs) in
    subst (λ us. codes_of us len ≤ codes_of (take t xs) len) same (sum_by-take-le (λ n. cond (n == len) 1 0) (take t xs) s)

-- before a symbol there are fewer of its length than in all
pub before_all : (xs : List ℕ) (s : ℕ) → 0 < get_or xs s 0 → codes_of (take s xs) (get_or xs s 0) < codes_of xs (get_or xs s 0)
before_all xs s h =
    let inside = known xs s h in
    let one = codes_yes xs s (get_or xs s 0) inside refl in
    let more = codes_rise xs (get_or xs s 0) (s + 1) (length xs) (omega (arith, inside)) (omega arith) in
    omega (arith, one, more, codes_all xs (get_or xs s 0))

-- before two symbols of one length there are as many only where they are one
rank_once : (xs : List ℕ) (len s t : ℕ) → 0 < len → get_or xs s 0 ≡ len → get_or xs t 0 ≡ len → codes_of (take s xs) len ≡ codes_of (take t xs) len → s ≡ t
rank_once xs len s t some a b e =
    let first = known xs s (omega (arith, some, a)) in
    let second = known xs t (omega (arith, some, b)) in
    elim (cases_order s t) [
      | inl same ↦ same
      | inr (inl less) ↦ absurd (omega (arith, e, codes_yes xs s len first a, codes_rise xs len (s + 1) t (omega (arith, less)) (omega (arith, second))))
      | inr (inr more) ↦ absurd (omega (arith, e, codes_yes xs t len second b, codes_rise xs len (t + 1) s (omega (arith, more)) (omega (arith, first))))
    ]

-- the symbol that stands behind a given number of its length
abbrev Ranked : List ℕ → ℕ → ℕ → ℕ → Type 0
Ranked xs len rank s = (get_or xs s 0 ≡ len) × (codes_of (take s xs) len ≡ rank)

ranked : (xs : List ℕ) (len rank n : ℕ) → n ≤ length xs → rank < codes_of (take n xs) len → (s : ℕ) × Ranked xs len rank s
ranked xs len rank zero h less = absurd (omega (arith, less))
ranked xs len rank (suc n) h less =
    let here : n < length xs = omega (arith, h) in
    let last : rank < codes_of (take (n + 1) xs) len = subst (λ m. rank < codes_of (take m xs) len) (sym (add-one n)) less in
    elim (cases_eq (get_or xs n 0) len) [
      | inl same ↦ elim (cases_lt rank (codes_of (take n xs) len)) [
        | inl before ↦ ranked xs len rank n (omega (arith, here)) before
        | inr not ↦ (n, (same, omega (arith, not, last, codes_yes xs n len here same)))
      ]
      | inr other ↦ ranked xs len rank n (omega (arith, here)) (omega (arith, last, codes_no xs n len here other))
    ]

-- a symbol's code by its length
shown : (lengths : List ℕ) (s k : ℕ) → get_or lengths s 0 ≡ k + 1 → code_of lengths s ≡ first_code lengths k + codes_of (take s lengths) (k + 1)
shown lengths s k e =
    ap (λ n. first_code lengths (n - 1) + codes_of (take s lengths) n) e
    ∙ ap (λ n. first_code lengths n + codes_of (take s lengths) (k + 1)) (let same : k + 1 - 1 ≡ k = omega arith in same)

-- it lies among those of its length
pub lies : (lengths : List ℕ) (s k : ℕ) → get_or lengths s 0 ≡ k + 1 → (first_code lengths k ≤ code_of lengths s) × (code_of lengths s < behind_codes lengths k)
lies lengths s k e =
    let there = subst (λ n. codes_of (take s lengths) n < codes_of lengths n) e (before_all lengths s (omega (arith, e))) in
    (omega (arith, shown lengths s k e), omega (arith, shown lengths s k e, there))

-- and has no more digits than bits
pub code_below : (lengths : List ℕ) (s : ℕ) → IsComplete lengths → HasCode lengths s → (code_of lengths s < 2 ^ get_or lengths s 0) × (code_of lengths s < 2 ^ 15)
code_below lengths s whole some =
    let k = get_or lengths s 0 - 1 in
    let e : get_or lengths s 0 ≡ k + 1 = omega (arith, some) in
    let few : get_or lengths s 0 ≤ 15 = All-get_or (λ len. len ≤ 15) lengths s 0 (known lengths s some) whole.0 in
    let low = lies lengths s k e in
    let most = within lengths k (omega (arith, few, e)) (omega (arith, whole.1)) in
    let all = rises_to lengths k 14 (omega (arith, few, e)) in
    (subst (λ n. code_of lengths s < 2 ^ n) (sym e) (omega (arith, low.1, most)), omega (arith, low.1, all, whole.1))

-- behind a code, the numbers that a text begins with stay before the first code
module _ (lengths : List ℕ) (many : ℕ) (at : ℕ → ℕ) (are : AreBeginnings many at) where
  stays_next : (k : ℕ) → at (k + 1) < behind_codes lengths k → k + 1 < many → at (k + 1 + 1) < first_code lengths (k + 1)
  stays_next k h inside = let turn = (are.1 (k + 1) inside).1 in omega (arith, h, turn, next_first lengths k)

  stays : (d k m : ℕ) → d + (k + 1) ≡ m → at (k + 1) < behind_codes lengths k → m < many → at (m + 1) < first_code lengths m
  stays zero k m e h inside =
      let same : k + 1 ≡ m = omega (arith, e) in
      subst (λ n. at (n + 1) < first_code lengths n) same (stays_next k h (omega (arith, inside, same)))
  stays (suc d) k m e h inside =
      let before = stays_next k h (omega (arith, inside, e)) in
      stays d (k + 1) m (omega (arith, e)) (omega (arith, before)) inside

  -- so no other code is longer
  none_longer : (k m : ℕ) → at (k + 1) < behind_codes lengths k → k < m → m < many → first_code lengths m ≤ at (m + 1) → ⊥
  none_longer k m h less inside there =
      let before = stays (m - (k + 1)) k m (omega (arith, less)) h inside in
      absurd (omega (arith, before, there))

  -- where no shorter number is a code, a number is not before the first code
  pub not_before : (k : ℕ) → k < many → ((j : ℕ) → j < k → behind_codes lengths j ≤ at (j + 1)) → first_code lengths k ≤ at (k + 1)
  not_before zero inside all = omega (arith, no_first lengths)
  not_before (suc k) inside all =
      let less : k + 1 < many = omega (arith, inside) in
      let turn = (are.1 (k + 1) less).0 in
      subst (λ n. first_code lengths n ≤ at (n + 1)) (add-one k) (omega (arith, all k (omega arith), turn, next_first lengths k))

  -- a beginning has no more digits than bits
  digits : (k : ℕ) → k ≤ many → at k < 2 ^ k
  digits zero inside = omega (arith, are.0)
  digits (suc k) inside =
      let turn = (are.1 k (omega (arith, inside))).1 in
      subst (λ n. at n < 2 ^ n) (add-one k) (omega (arith, digits k (omega (arith, inside)), turn, twice k))

  -- the numbers are not all behind the codes of their lengths
  pub not_all : 15 ≤ many → IsComplete lengths → ((j : ℕ) → j < 15 → behind_codes lengths j ≤ at (j + 1)) → ⊥
  not_all inside whole all = absurd (omega (arith, all 14 (omega arith), digits 15 inside, whole.1))

  -- the first number that lies before the end of its codes
  found : (n k : ℕ) → n + k ≡ 15 → 15 ≤ many → IsComplete lengths → ((j : ℕ) → j < k → behind_codes lengths j ≤ at (j + 1)) → (m : ℕ) × (m < 15) × (first_code lengths m ≤ at (m + 1)) × (at (m + 1) < behind_codes lengths m)
  found zero k e inside whole all = absurd (not_all inside whole (λ j h. all j (omega (arith, h, e))))
  found (suc n) k e inside whole all = elim (cases_lt (at (k + 1)) (behind_codes lengths k)) [
    | inl here ↦ (k, omega (arith, e), not_before k (omega (arith, e, inside)) all, here)
    | inr past ↦ found n (k + 1) (omega (arith, e)) inside whole
        (λ j h. elim (cases_eq j k) [ inl same ↦ subst (λ m. behind_codes lengths m ≤ at (m + 1)) (sym same) past | inr other ↦ all j (omega (arith, h, other)) ])
  ]

  at_code : (s k : ℕ) → get_or lengths s 0 ≡ k + 1 → BeginsWithCode lengths many at s → (k < many) × (at (k + 1) ≡ code_of lengths s)
  at_code s k e begins = (omega (arith, e, begins.1), subst (λ n. at n ≡ code_of lengths s) e begins.2)

pub one_symbol : OneSymbol
one_symbol lengths many at s t whole are first second =
    let i = get_or lengths s 0 - 1 in
    let j = get_or lengths t 0 - 1 in
    let a : get_or lengths s 0 ≡ i + 1 = omega (arith, first.0) in
    let b : get_or lengths t 0 ≡ j + 1 = omega (arith, second.0) in
    let one = at_code lengths many at are s i a first in
    let two = at_code lengths many at are t j b second in
    let low = lies lengths s i a in
    let high = lies lengths t j b in
    elim (cases_order i j) [
      | inl same ↦ (
          let c : get_or lengths t 0 ≡ i + 1 = omega (arith, b, same) in
          let code : code_of lengths s ≡ code_of lengths t = sym one.1 ∙ ap (λ n. at (n + 1)) same ∙ two.1 in
          rank_once lengths (i + 1) s t (omega arith) a c (omega (arith, code, shown lengths s i a, shown lengths t i c))
          )
      | inr (inl less) ↦ absurd (none_longer lengths many at are i j (omega (arith, one.1, low.1)) less two.0 (omega (arith, two.1, high.0)))
      | inr (inr more) ↦ absurd (none_longer lengths many at are j i (omega (arith, two.1, high.1)) more one.0 (omega (arith, one.1, low.0)))
    ]

-- a number that lies among the codes of its length is that of a symbol
pub some_at : (lengths : List ℕ) (k n : ℕ) → first_code lengths k ≤ n → n < behind_codes lengths k → (s : ℕ) × (get_or lengths s 0 ≡ k + 1) × (code_of lengths s ≡ n)
some_at lengths k n low high =
    let it = ranked lengths (k + 1) (n - first_code lengths k) (length lengths) (omega arith) (omega (arith, low, high, codes_all lengths (k + 1))) in
    (it.0, it.1.0, omega (arith, shown lengths it.0 k it.1.0, it.1.1, low))

pub some_symbol : SomeSymbol
some_symbol lengths many at whole are inside =
    let it = found lengths many at are 15 0 (omega arith) inside whole (λ j h. absurd (omega (arith, h))) in
    let s = some_at lengths it.0 (at (it.0 + 1)) it.2 it.3 in
    (s.0, (omega (arith, s.1), omega (arith, s.1, it.1, inside), ap at s.1 ∙ sym s.2))

-- what the search takes where the tables are made
pub ruleset tables = (next_first, no_first, rises_to, common_steps)
