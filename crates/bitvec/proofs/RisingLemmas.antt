-- Spans in a list whose places rise: each is apart from all before it where it starts at their greatest end or above.
use Rattle.std.proofs.Common.{◌≡◌, ℕ, ℤ, pos, negsuc, ◌+◌, ◌-◌, ◌*◌, ◌/◌, ◌<◌, ◌≤◌, ◌+ℤ◌, ◌≤ℤ◌, ◌<ℤ◌, List, length, get_or, Some, sym, ◌∙◌, subst, ap, inl, inr, arith}
use Rattle.std.specs.Prelude.{nat_abs, slice_get}
use Rattle.std.proofs.lemmas.Bool.{cases_eq, cases_lt}
use Rattle.std.proofs.lemmas.Int.{ints}
use Rattle.std.proofs.lemmas.List.{get_or_default}
use Rattle.std.proofs.lemmas.Nat.{mul-le, div-add-mod'}
use Rattle.std.proofs.lemmas.Option.{get_or_from_slice_get}
use Rattle.bitvec_ptr.specs.Place.{place_at}
use Rattle.bitvec_ptr.proofs.PlaceLemmas.{words_met-some}
use Rattle.bitvec_span.specs.Span.{Span, Covers, Fits, AreDisjoint}
use Rattle.bitvec_span.proofs.DisjointLemmas.{disjoint-none, disjoint-sym}

-- the place of a bit from word 0 on is a number
pub place_number : (bits i : ℕ) (word : ℤ) → pos 0 ≤ℤ word → place_at bits word i ≡ pos (nat_abs word * bits + i)
place_number bits i (pos m) low = omega (arith, ints)
place_number bits i (negsuc m) low = absurd (omega (arith, ints, low))

pub fits_from_end : (bits : ℕ) (span : Span) (words : ℕ) → 0 < bits → 0 < span.len → pos 0 ≤ℤ span.word
    → nat_abs span.word * bits + span.head + span.len ≤ words * bits → Fits bits span words
fits_from_end bits span words wide some low within =
    let first = nat_abs span.word in
    let last = (span.head + span.len - 1) / bits in
    let row : last * bits ≤ span.head + span.len - 1 = omega (arith, div-add-mod' (span.head + span.len - 1) bits) in
    let met = words_met-some bits span.head span.len some in (
      low,
      elim (cases_lt (first + last) words) [
        | inl below ↦ omega (arith, below, met)
        | inr past ↦ absurd (let rows : words * bits ≤ (first + last) * bits = mul-le words bits (first + last) bits past (omega arith) in omega (arith, rows, row, within, some))
      ],
    )

-- every place of a span is below a number
abbrev pub IsBelow : ℕ → Span → ℕ → Type 0
IsBelow bits a upto = (place : ℤ) → Covers bits a place → place <ℤ pos upto

pub below-own : (bits : ℕ) (a : Span) (upto : ℕ) → (place_at bits a.word a.head +ℤ pos a.len) ≡ pos upto → IsBelow bits a upto
below-own bits a upto ends place here = omega (arith, ints, here.1, ends)

pub below-none : (bits : ℕ) (a : Span) (upto : ℕ) → a.len ≡ 0 → IsBelow bits a upto
below-none bits a upto none place here = absurd (omega (arith, ints, here.0, here.1, none))

pub below-more : (bits : ℕ) (a next : Span) (upto more : ℕ) → IsBelow bits a upto → pos upto ≤ℤ place_at bits next.word next.head
    → (place_at bits next.word next.head +ℤ pos next.len) ≡ pos more → IsBelow bits a more
below-more bits a next upto more below starts ends place here = omega (arith, ints, below place here, starts, ends)

-- a span that starts there or above is apart from it
pub apart_above : (bits : ℕ) (a next : Span) (upto : ℕ) → IsBelow bits a upto → pos upto ≤ℤ place_at bits next.word next.head → AreDisjoint bits a next
apart_above bits a next upto below starts place here there = absurd (omega (arith, ints, below place here, starts, there.0))

pub apart_none : (bits : ℕ) (a b : Span) → b.len ≡ 0 → AreDisjoint bits a b
apart_none bits a b none = disjoint-sym bits b a (disjoint-none bits b a none)

-- what holds of each element below i, and of x, which stands at i, holds of each below i + 1
pub each_more : {X : Type 0} (P : X → Type 0) (xs : List X) (i : ℕ) (x : X)
    → slice_get xs i ≡ Some x → ((a : ℕ) (d : X) → a < i → P (get_or xs a d)) → P x
    → (a : ℕ) (d : X) → a < i + 1 → P (get_or xs a d)
each_more P xs i x is so_far here a d below =
    elim (cases_eq a i) [
      | inl same ↦ (
          let found = ap (λ n. get_or xs n d) same ∙ get_or_from_slice_get xs i x d is in
          subst P (sym found) here)
      | inr other ↦ so_far a d (omega arith)
    ]

-- each element below i is related to each later one below i
abbrev pub ArePairsBelow : {X : Type 0} → (X → X → Type 0) → List X → ℕ → Type 0
ArePairsBelow {X} R xs i = (a b : ℕ) (d : X) → a < b → b < i → R (get_or xs a d) (get_or xs b d)

-- where each of them is also related to x, which stands at i, this is so below i + 1
pub pairs_more : {X : Type 0} (R : X → X → Type 0) (xs : List X) (i : ℕ) (x : X)
    → slice_get xs i ≡ Some x → ArePairsBelow R xs i
    → ((a : ℕ) (d : X) → a < i → R (get_or xs a d) x) → ArePairsBelow R xs (i + 1)
pairs_more R xs i x is so_far here = λ a b d above below.
    elim (cases_eq b i) [
      | inl same ↦ (
          let found = ap (λ n. get_or xs n d) same ∙ get_or_from_slice_get xs i x d is in
          subst (λ y. R (get_or xs a d) y) (sym found) (here a d (omega arith)))
      | inr other ↦ so_far a b d above (omega arith)
    ]

-- two elements of a list in which each is related to each later one
pub pair_at : {X : Type 0} (R : X → X → Type 0) (xs : List X) (i j : ℕ) (x y : X) → x ≡ get_or xs i x → y ≡ get_or xs j y → ((a b : ℕ) (d : X) → a < b → b < length xs → R (get_or xs a d) (get_or xs b d)) → i < j → j < length xs → R x y
pair_at R xs i j x y is_x is_y all above below =
    subst (λ v. R v y) (sym is_x) (subst (λ v. R (get_or xs i x) v) (sym (is_y ∙ get_or_default xs j y x below)) (all i j x above below))

-- no two of the spans below i have a place in common
abbrev pub AreApartBelow : {X : Type 0} → ℕ → (X → Span) → List X → ℕ → Type 0
AreApartBelow bits view xs i = ArePairsBelow (λ x y. AreDisjoint bits (view x) (view y)) xs i

-- every place of each of them is below a number
abbrev pub AllBelow : {X : Type 0} → ℕ → (X → Span) → List X → ℕ → ℕ → Type 0
AllBelow {X} bits view xs i upto = (a : ℕ) (d : X) → a < i → IsBelow bits (view (get_or xs a d)) upto

-- a span that starts there or above
pub one_more_rises : {X : Type 0} (bits : ℕ) (view : X → Span) (xs : List X) (i upto more : ℕ) (y : X)
    → slice_get xs i ≡ Some y → AreApartBelow bits view xs i → AllBelow bits view xs i upto
    → pos upto ≤ℤ place_at bits (view y).word (view y).head → (place_at bits (view y).word (view y).head +ℤ pos (view y).len) ≡ pos more
    → AreApartBelow bits view xs (i + 1) × AllBelow bits view xs (i + 1) more
one_more_rises {X} bits view xs i upto more y is apart below starts ends = (
  pairs_more (λ a b. AreDisjoint bits (view a) (view b)) xs i y is apart
      (λ a d h. apart_above bits (view (get_or xs a d)) (view y) upto (below a d h) starts),
  each_more (λ v. IsBelow bits (view v) more) xs i y is
      (λ a d h. below-more bits (view (get_or xs a d)) (view y) upto more (below a d h) starts ends)
      (below-own bits (view y) more ends),
)

-- a span of no bits
pub one_more_empty : {X : Type 0} (bits : ℕ) (view : X → Span) (xs : List X) (i upto : ℕ) (y : X)
    → slice_get xs i ≡ Some y → AreApartBelow bits view xs i → AllBelow bits view xs i upto
    → (view y).len ≡ 0
    → AreApartBelow bits view xs (i + 1) × AllBelow bits view xs (i + 1) upto
one_more_empty bits view xs i upto y is apart below none = (
  pairs_more (λ a b. AreDisjoint bits (view a) (view b)) xs i y is apart
      (λ a d h. apart_none bits (view (get_or xs a d)) (view y) none),
  each_more (λ v. IsBelow bits (view v) upto) xs i y is below (below-none bits (view y) upto none),
)
